-- The limit that rule 30 sets on the table.
use Rattle.std.proofs.Common.{◌≡◌, List, ℕ, arith}
use mathlib.Core.Bool.{false}
use lib.ListN.{length-take}
use Rattle.csdl.specs.Later.{table_from, later_table, later_image1}
use Rattle.csdl.specs.Members.{member_sizes}
use Rattle.csdl.proofs.Later.{later_sound}
use Rattle.enumeration_members.specs.Limits.{FewMembers}

-- At most 1024 members.
few_members : (image : List ℕ) → later_image1 member_sizes image ≡ false → FewMembers (later_table member_sizes image 0)
unfolding table_from
few_members image h = simp length-take (omega (arith, (later_sound member_sizes image h).records 0 (omega arith)))

pub few_in_table : (image sizes table : List ℕ) → sizes ≡ member_sizes → later_image1 member_sizes image ≡ false → table ≡ later_table sizes image 0 → FewMembers table
few_in_table image sizes table s h e = rw (e, s) (few_members image h)
