-- Nobody waits for itself where each actor's wait is above all that it holds.
use Rattle.std.proofs.Common.{◌≡◌, ℕ, ◌⊎◌, List, [], ◌∷◌, Some, refl, sym, subst, inl, inr, ⊎_elim}
use Rattle.six_lock.specs.Modes.{Mode}
use Rattle.lock_table.specs.Names.{IsBelow}
use Rattle.lock_table.specs.Tables.{Table, HoldsAt, name_at, IsSound, StandsAbove, WaitsFor, WaitsAlong, HasNoCycle}
use Rattle.lock_table.specs.declared.name.NodeName.{NodeName}
use Rattle.lock_table.proofs.Order.{below_trans, not_below_itself}

-- the actor holds a node that is this one or stands above it
record HoldsFrom (table : Table) (actor : ℕ) (name : NodeName) : Type 0 where
  birth : ℕ
  mode : Mode
  held : NodeName
  holds : HoldsAt table birth actor mode
  named : name_at table birth ≡ Some held
  from : (name ≡ held) ⊎ IsBelow name held

-- what the last one holds, where each waits for the next: the first one's wait is for a node above all that the first
-- holds, and the last holds that node or one above it
record Rises (table : Table) (first last : ℕ) : Type 0 where
  name : NodeName
  above : StandsAbove table first name
  reached : HoldsFrom table last name

module _ (table : Table) (sound : IsSound table) where
  -- along one wait
  rises_one : (first last : ℕ) → WaitsFor table first last → Rises table first last
  rises_one first last waits = record {
    name = waits.node;
    above = sound.upward first _ waits.asked;
    reached = record { birth = waits.node.birth; mode = waits.mode; held = waits.node; holds = waits.holds; named = waits.named; from = inl refl };
  }

  -- from one wait to the next
  further : (name held next : NodeName) → (name ≡ held) ⊎ IsBelow name held → IsBelow held next → IsBelow name next
  further name held next from below = ⊎_elim (λ same. subst (λ n. IsBelow n next) (sym same) below) (λ before. below_trans name held next before below) from

  rises : (first : ℕ) (between : List ℕ) (last : ℕ) → WaitsAlong table first between last → Rises table first last
  rises first [] last waits = rises_one first last waits
  rises first (next ∷ between) last waits =
      let here = rises_one first next waits.0 in
      let later = rises next between last waits.1 in
      let step : IsBelow here.name later.name = further here.name here.reached.held later.name here.reached.from (later.above here.reached.birth here.reached.mode here.reached.held here.reached.holds here.reached.named) in
      record {
        name = here.name;
        above = here.above;
        reached = record {
          birth = later.reached.birth;
          mode = later.reached.mode;
          held = later.reached.held;
          holds = later.reached.holds;
          named = later.reached.named;
          from = inr (⊎_elim (λ same. subst (λ n. IsBelow here.name n) same step) (λ before. below_trans here.name later.name later.reached.held step before) later.reached.from);
        };
      }

  pub no_cycle : HasNoCycle table
  no_cycle actor between waits =
      let around = rises actor between actor waits in
      not_below_itself around.name (further around.name around.reached.held around.name around.reached.from (around.above around.reached.birth around.reached.mode around.reached.held around.reached.holds around.reached.named))
