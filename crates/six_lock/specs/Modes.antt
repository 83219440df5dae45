-- The modes of a lock, and which go together.
use Rattle.std.specs.Prelude.{Bool, true, false}

-- the three modes
pub data Mode : Type 0 where
  Shared : Mode
  Intent : Mode
  Exclusive : Mode

-- whether two actors may hold these modes at the same time
abbrev pub go_together : Mode → Mode → Bool
go_together Shared Shared = true
go_together Shared Intent = true
go_together Intent Shared = true
go_together first second = false
