use Rattle.lookup.specs.Buckets.{bucket_of}
use borrow.Author.Rules.{rules}
use Rattle.lookup.proofs.buckets.bucket_of.Goals as goal

pub returns : goal.returns
unfolding bucket_of
returns c = (cc, search rules)
