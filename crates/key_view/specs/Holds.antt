-- Why a plan ends without a result.
use Rattle.std.specs.Prelude.{◌≡◌, ◌⊎◌}
use Rattle.key_view.specs.declared.hold.Hold.{Hold}
use Rattle.key_view.specs.declared.hold.Hold.TheVariants.{NoMemory}

-- The view has just answered so, or there was no memory.
abbrev pub IsCause : (Hold → Type 0) → Hold → Type 0
IsCause held hold = (hold ≡ NoMemory) ⊎ held hold
