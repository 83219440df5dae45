use Rattle.vol_types.specs.KeyMapLaws.{entries_of-with_update, value_in-with_update, same_key_maps, with_updates-append, IsKeyMap-with_updates, gives_joined}
use Rattle.vol_types.proofs.laws.key_maps_are_updated.Goals as goal

pub returns : goal.returns
returns c = record { entries = entries_of-with_update; value = value_in-with_update; same = same_key_maps; joined = with_updates-append; stays = IsKeyMap-with_updates; looks = gives_joined }
