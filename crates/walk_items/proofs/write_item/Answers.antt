use Prim.Native.Nat.{◌+◌, ◌-◌}
use mathlib.Core.Path.{◌≡◌, ◌∙◌}
use native.Mathlib.Omega.{arith}
use Rattle.csdl.specs.Walk.{bytes_of_number, bytes_of_item}
use Rattle.csdl.specs.Walk.Item.{value}
use Rattle.walk_items.proofs.Turns.{write_is}
use Rattle.walk_items.proofs.write_item.Goals as goal

pub returns : goal.returns
unfolding bytes_of_item bytes_of_number
returns c =
    let n : c.args.at + 4 - c.args.at ≡ 4 = omega arith in
    let e : c.copy_from_slice.new.self ≡ bytes_of_item (value c.args.item.t c.args.item.v) =
    c.copy_from_slice.ensures.after ∙ rw (c.byte_of.ensures, c.byte_of-2.ensures, c.byte_of-3.ensures) in
    rw (n, e) (write_is c.args.out.now c.args.at c.args.item.t c.args.item.v c.requires)
