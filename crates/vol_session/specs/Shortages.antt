-- Commits that were refused for want of room, and what was done about them since.
use Rattle.std.specs.Prelude.{◌≡◌, Bool, true, false, not, ◌&&◌, ◌||◌, Result, Ok, Err}
use Rattle.core_actors.specs.declared.answer.Answer.{Answer}
use Rattle.core_actors.specs.declared.answer.Answer.TheVariants as answers
use Rattle.core_actors.specs.declared.answer.Refusal.{Refusal}
use Rattle.core_actors.specs.declared.answer.Refusal.TheVariants as refusals
use Rattle.vol_session.specs.declared.session.Uncommitted.{Uncommitted}

-- whether a checkpoint may make the room that a refused commit lacks: in the ring, or in buckets, where it would free some
abbrev pub lacks_room : Refusal → Bool
lacks_room (refusals.RingFull full) = true
lacks_room (refusals.NoSpace none) = not none.idle
lacks_room other = false

-- whether a commit that is answered so may be made after a checkpoint
abbrev pub may_be_helped : Answer → Bool
may_be_helped (answers.Refused refusal) = lacks_room refusal
may_be_helped other = false

-- whether a commit that came to this was refused for want of room
abbrev pub lacked_room : Result (Unit {0}) Uncommitted → Bool
lacked_room (Ok done) = false
lacked_room (Err not_made) = may_be_helped not_made.answer

-- whether a commit was refused for want of room that no checkpoint has met, and whether a checkpoint that came to its end met one after which no commit was tried
pub record ShortageState : Type 0 where
  pub unmet : Bool
  pub untried : Bool

-- that of a session that has made no commit
abbrev pub no_shortage : ShortageState
no_shortage = record { unmet = false; untried = false }

-- after a commit, which is a further try, and which was refused for want of room or not
abbrev pub after_commit : (lacked : Bool) → ShortageState → ShortageState
after_commit lacked old = record { unmet = old.unmet || lacked; untried = false }

-- after a checkpoint, which meets each refusal: where it came to its end, a commit is to be tried again, and where it ended early, none is
abbrev pub after_checkpoint : (ended : Bool) → ShortageState → ShortageState
after_checkpoint ended old = record { unmet = false; untried = ended && (old.unmet || old.untried) }

-- where both works rest, so that a checkpoint would help no commit that was refused
abbrev pub met_at_rest : ShortageState → ShortageState
met_at_rest old = record { unmet = false; untried = old.untried }

-- Each commit that was refused for want of room was met by a checkpoint, and tried again where this came to its end, or both works rested when it was refused.
pub record IsHelped (shortages : ShortageState) : Type 0 where
  pub met : shortages.unmet ≡ false
  pub tried : shortages.untried ≡ false
