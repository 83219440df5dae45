use Rattle.std.proofs.Common.{◌≡◌, length, None}
use Rattle.std.specs.List.{All}
use Rattle.lock_table.proofs.holding.no_holdings.Given as goal

-- so many actors so far, of which none holds anything
abbrev pub invariant-loop : goal.invariant-loop
invariant-loop l = record {
  counted : length l.holdings.items ≡ l.counter;
  free : All (λ holding. holding.highest ≡ None) l.holdings.items;
}
