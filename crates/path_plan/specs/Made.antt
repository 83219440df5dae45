-- What a change comes to: updates that make the forest's step, or the forest's refusal; and what such updates may be.
use Rattle.std.specs.Prelude.{◌≡◌, ◌≢◌, ℕ, ◌+◌, ◌*◌, ◌/◌, ◌≤◌, All, List, ⊤, Result, Ok, Err, sum_by}
use Rattle.forest_ops.specs.Refusals.{Agrees}
use Rattle.forest_ops.specs.Steps.{Next}
use Rattle.forest_ops.specs.declared.operation.Cause.{Cause}
use Rattle.forest_ops.specs.declared.operation.Reply.TheVariants.{Okay}
use Rattle.key_meaning.specs.Checks.{IsSound}
use Rattle.key_meaning.specs.Forest.{Read, forest_in}
use Rattle.key_meaning.specs.Tidy.{IsTidy}
use Rattle.plain_forest.specs.Forest.{Forest}
use Rattle.vol_types.specs.KeyMaps.{KeyMap, with_updates}
use Rattle.vol_types.specs.Lengths.{key_length_of}
use Rattle.vol_types.specs.Standing.{IsUpdate}
use Rattle.vol_types.specs.declared.keys.Update.{Update}
use Rattle.vol_types.specs.declared.layout.Layout.{Layout}
use Rattle.vol_types.specs.declared.pointers.Place.{Place}
use Rattle.vol_types.specs.declared.positions.Btree.TheVariants.{Extents}

-- the bytes that an update takes in an entry of the journal: two before its key
abbrev pub update_length : Update → ℕ
update_length update = 2 + key_length_of update.value

-- how many blocks an entry of the journal with these updates alone takes, of 3,968 bytes each, where the nine roots before them
-- lie on so many metadata devices
abbrev pub blocks_alone : ℕ → List Update → ℕ
blocks_alone mirrors updates = (36 + 9 * (10 + 5 * mirrors) + sum_by update_length updates + 3967) / 3968

-- The updates may be made, all in leaves, and in one entry of the journal, whose 64 blocks they don't pass. None is of extents.
pub record AreMade (updates : List Update) : Type 0 where
  pub each : All IsUpdate updates
  pub leaves : All (λ update. update.level ≡ 0) updates
  pub extents : All (λ update. update.btree ≢ Extents) updates
  pub few : (mirrors : ℕ) → mirrors ≤ 3 → blocks_alone mirrors updates ≤ 64

-- The updates have it, where there are some.
abbrev pub IfMade : Result (List Update) Cause → (List Update → Type 0) → Type 0
IfMade (Ok updates) P = P updates
IfMade (Err cause) P = ⊤

-- The step answers that it was done. With the updates the key map means the forest after it, and is sound and tidy.
pub record AreOfStep (keys : KeyMap) (nodes : List Place) (layout : Layout) (read : Read) (updates : List Update) (next : Next) : Type 0 where
  pub reply : next.reply ≡ Okay
  pub means : forest_in (with_updates updates keys) read ≡ next.forest
  pub sound : IsSound (with_updates updates keys) nodes layout
  pub tidy : IsTidy (with_updates updates keys)
  pub made : AreMade updates

-- The updates make the step of the forest that the key map means, or both are refused for one cause.
abbrev pub IsStepMade : KeyMap → List Place → Layout → (Forest → Result Next Cause) → Result (List Update) Cause → Type 0
IsStepMade keys nodes layout step planned = (read : Read) → Agrees (AreOfStep keys nodes layout read) planned (step (forest_in keys read))
