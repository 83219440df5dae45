-- Updates of an id's own key that may be made.
use Rattle.std.proofs.Common.{◌≡◌, ℕ, Option, None, List, [], ◌∷◌, sym, subst}
use Rattle.std.specs.Prelude.{All}
use Rattle.std.proofs.lemmas.List.Elements.{All-cons, All-nil}
use Rattle.key_view.specs.Changes.{own_update}
use Rattle.vol_types.specs.Standing.{IsUpdate}
use Rattle.vol_types.specs.declared.keys.Update.{Update}
use Rattle.vol_types.specs.declared.positions.Btree.{Btree}

-- where the only one may be made, they may
pub one_fits : (updates : List Update) (update : Update) → updates ≡ update ∷ [] → IsUpdate update → All IsUpdate updates
one_fits updates update is fits = subst (All IsUpdate) (sym is) (All-cons IsUpdate update [] fits (All-nil IsUpdate))

-- a key may be removed
pub removal_fits : (btree : Btree) (inode offset id : ℕ) → IsUpdate (own_update btree inode offset id None)
removal_fits btree inode offset id = record { stands = tt; in_range = tt }
