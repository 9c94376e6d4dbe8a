-- What is seen of a part of any kind, by its kind.
use Rattle.std.specs.Prelude.{ℕ, List}
use Rattle.vr_space.specs.Known.{Known}
use Rattle.vr_space.specs.Part.{KeyedShape, NumberedShape, Shape}
use Rattle.vr_keyed.specs.Owned as keyed_parts
use Rattle.vr_chained.specs.Owned as chained_parts
use Rattle.vr_part.specs.declared.any.AnyPart.{AnyPart}
use Rattle.vr_part.specs.declared.any.AnyPart.TheVariants.{Keyed, Chained}

-- where it is on its blocks, and how they are spelled
abbrev pub shape_any : AnyPart → Shape
shape_any (Keyed part) = KeyedShape part.part
shape_any (Chained part) = NumberedShape part.chain.part

-- what it keeps in memory of its blocks
abbrev pub known_any : AnyPart → Known
known_any (Keyed part) = keyed_parts.known_of part
known_any (Chained part) = chained_parts.known_of part

-- the blocks that its last `set` put
abbrev pub put_any : AnyPart → List ℕ
put_any (Keyed part) = part.put
put_any (Chained part) = part.put
