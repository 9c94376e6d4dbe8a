-- What the model's items stand for.
use Rattle.vr_types.specs.Content.{Item, Standing as StandingItem, Withdrawn as WithdrawnItem}
use Rattle.vr_model_state.specs.declared.content.Stored.{Stored}
use Rattle.vr_model_state.specs.declared.content.Stored.TheVariants.{Standing, Withdrawn}

abbrev pub item_of : Stored → Item
item_of (Standing bytes) = StandingItem bytes
item_of (Withdrawn length) = WithdrawnItem length
