-- Forks are made until there are so many, and each leaves one fewer to make.
use Rattle.std.proofs.Common.{◌≡◌, ◌≤◌, ◌-◌, vec_len, vec_capacity}
use Rattle.pin_list.proofs.make.Given as goal

abbrev pub invariant-loop-alloc : goal.invariant-loop-alloc
invariant-loop-alloc l =
    (vec_len l.initial.spares ≤ vec_len l.spares) × (vec_len l.spares ≤ l.wanted) × (vec_capacity l.spares ≡ vec_capacity l.initial.spares)

abbrev pub decreases-loop-alloc : goal.decreases-loop-alloc
decreases-loop-alloc l = l.wanted - vec_len l.spares
