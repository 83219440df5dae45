-- How the subvolumes that share a slot change: a name comes to have a subvolume, another one, or none.
use Rattle.std.specs.Prelude.{◌≡◌, ℕ, List, [], ◌∷◌, None, Option, Some, find, if◌then◌else◌}
use Rattle.std.specs.Ordering.{is_eq}
use Rattle.vol_types.specs.Ranges.{IsKeyValue, name_cmp}
use Rattle.vol_types.specs.declared.keys.Update.{Update}
use Rattle.vol_types.specs.declared.positions.Btree.TheVariants.{Counters, Subvols}
use Rattle.vol_types.specs.declared.values.Sub.{Sub}
use Rattle.vol_types.specs.declared.values.Value.{Value}
use Rattle.vol_types.specs.declared.values.Value.TheVariants as values

-- the subvolume of a name among those of a slot
abbrev pub sub_of : List ℕ → List Sub → Option Sub
sub_of name subs = find (λ sub. is_eq (name_cmp name sub.name)) subs

-- the value that holds some subvolumes; none where there is none
abbrev pub subs_value : List Sub → Option Value
subs_value [] = None
subs_value (sub ∷ subs) = Some (values.Subs (sub ∷ subs))

-- The new subvolumes of a slot are the old ones, but that this name has this subvolume, or none, and may stand as one value.
pub record PutsSub (name : List ℕ) (sub : Option Sub) (old new : List Sub) : Type 0 where
  pub found : (other : List ℕ) → sub_of other new ≡ (if is_eq (name_cmp name other) then sub else sub_of other old)
  pub in_range : IsKeyValue (subs_value new)

-- the update that gives a slot these subvolumes, or none
abbrev pub subs_update : ℕ → List Sub → Update
subs_update slot subs = record { btree = Subvols; level = 0; pos = record { inode = 0; offset = slot; snapshot = 0 }; value = subs_value subs }

-- the update that sets a counter
abbrev pub counter_update : ℕ → ℕ → Update
counter_update counter next = record { btree = Counters; level = 0; pos = record { inode = 0; offset = counter; snapshot = 0 }; value = Some (values.Counter next) }
