use Rattle.std.proofs.Common.{◌≡◌}
use Rattle.turn_cell.specs.Handles.{view, IsPassOf}
use Rattle.lock_tests.proofs.draws.draw.Given as goal

abbrev pub invariant-loop : goal.invariant-loop
invariant-loop g l = IsPassOf l.cell l.pass × ((view l.pass).actor ≡ (view l.fn.pass).actor) × ((view l.pass).ledger ≡ (view l.fn.pass).ledger)
