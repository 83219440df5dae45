-- A block of a copy, where it is taken out of the list.
use Rattle.std.proofs.Common.{◌≡◌, ℕ, zero, suc, List, [], ◌∷◌, slice_get, Option, Some, None, refl}
use Rattle.node_store.specs.declared.opening.OpenBlock.{OpenBlock}
use Rattle.node_store.specs.Copies.{block_in}

-- No such block, which shows nothing.
pub flat_none : (copy : List (Option OpenBlock)) (n : ℕ) → slice_get copy n ≡ None → block_in copy n ≡ None
flat_none [] n is = refl
flat_none (b ∷ copy) zero is = cc
flat_none (b ∷ copy) (suc n) is = flat_none copy n is

-- The block shows what is in the list.
pub flat_some : (copy : List (Option OpenBlock)) (n : ℕ) (shown : Option OpenBlock) → slice_get copy n ≡ Some shown → block_in copy n ≡ shown
flat_some [] n shown is = cc
flat_some (b ∷ copy) zero shown is = cc
flat_some (b ∷ copy) (suc n) shown is = flat_some copy n shown is
