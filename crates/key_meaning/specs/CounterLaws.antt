-- A counter that is set changes nothing that shows, and one that is raised within its range keeps the keys' numbers drawn.
use Rattle.std.proofs.Common.{◌≡◌, ℕ, ◌+◌, ◌*◌, ◌<◌, ◌≤◌, Bool, true, false, cond, Option, Some, refl, sym, ap, ◌∙◌, subst, arith}
use Rattle.std.specs.Prelude.{◌==◌, ◌/◌, ◌%◌, IsSome, All, unwrap_or}
use Rattle.std.specs.Int.{IsInRange}
use Rattle.std.proofs.lemmas.Bool.{eq-eqb, eqb-true, ne_eqb, true≢false}
use Rattle.std.proofs.lemmas.List.Elements.{All-weaker}
use Rattle.std.proofs.lemmas.Option.{same_Some}
use Rattle.plain_forest.specs.Steps.{numbers_per_client}
use Rattle.vol_types.specs.Btrees.{btree_code}
use Rattle.vol_types.specs.KeyMapLaws.{entries_of-with_update}
use Rattle.vol_types.specs.KeyMaps.{IsKeyMap, KeyMap, entries_of, is_update_of, with_update}
use Rattle.vol_types.specs.Maps.{put_at}
use Rattle.vol_types.specs.Positions.{pos_cmp}
use Rattle.vol_types.specs.declared.keys.Update.{Update}
use Rattle.vol_types.specs.declared.positions.Btree.{Btree}
use Rattle.vol_types.specs.declared.positions.Btree.TheVariants.{Extents, Inodes, Dirents, Subvols, Snapshots, Alloc, Backptrs, Deleted, Counters}
use Rattle.vol_types.specs.declared.positions.Pos.{Pos}
use Rattle.vol_types.specs.declared.values.Link.{Link}
use Rattle.vol_types.specs.declared.values.Sub.{Sub}
use Rattle.vol_types.specs.declared.values.Value.{Value}
use Rattle.vol_types.specs.declared.values.Value.TheVariants as values
use Rattle.key_meaning.specs.ChangeLaws.{alike_unseen}
use Rattle.key_meaning.specs.EntryLaws.{all-with_update}
use Rattle.key_meaning.specs.Forest.{counter_in, links_of, next_in, subs_of}
use Rattle.key_meaning.specs.Numbers.{IsUnused, MayCountTo, NamesOthers, SetsCounter, ShowSame}
use Rattle.key_meaning.specs.Tidy.{AreKeysDrawn, HasDrawn, IsCounterFrom, IsDrawn, IsKeyOf, id_counter}
use Rattle.key_meaning.specs.UpdateLaws.{counter_in-put, next_in-put, of_no_other}
use Rattle.key_meaning.specs.VisibleLaws.{snaps_of-with_update}

-- What names drawn numbers alone does so where these are drawn still.
pub has_drawn-still : (keys new : KeyMap) → ((number : ℕ) → IsDrawn keys number → IsDrawn new number) → (btree : Btree) (entry : Pos × Value) → HasDrawn keys btree entry → HasDrawn new btree entry
has_drawn-still keys new still Extents entry drawn = still entry.0.inode drawn
has_drawn-still keys new still Inodes entry drawn = still entry.0.offset drawn
has_drawn-still keys new still Dirents entry drawn = (still entry.0.inode drawn.0, All-weaker (λ (link : Link). IsDrawn keys link.number) (λ (link : Link). IsDrawn new link.number) (λ (link : Link). still link.number) (links_of (Some entry.1)) drawn.1)
has_drawn-still keys new still Subvols entry drawn = All-weaker (λ (sub : Sub). IsDrawn keys sub.root) (λ (sub : Sub). IsDrawn new sub.root) (λ (sub : Sub). still sub.root) (subs_of (Some entry.1)) drawn
has_drawn-still keys new still Snapshots entry drawn = tt
has_drawn-still keys new still Alloc entry drawn = tt
has_drawn-still keys new still Backptrs entry drawn = λ extent is. still extent.inode (drawn extent is)
has_drawn-still keys new still Deleted entry drawn = still entry.0.offset drawn
has_drawn-still keys new still Counters entry drawn = tt

-- So a key of a btree is one still.
pub is_key_of-still : (keys new : KeyMap) → ((number : ℕ) → IsDrawn keys number → IsDrawn new number) → (btree : Btree) (entry : Pos × Value) → IsKeyOf keys btree entry → IsKeyOf new btree entry
is_key_of-still keys new still btree entry key = record { stands = key.stands; in_range = key.in_range; place = key.place; id = key.id; numbers = has_drawn-still keys new still btree entry key.numbers }

-- The entries of another btree are as they were.
pub entries_other : (update : Update) (keys : KeyMap) (btree : Btree) → is_update_of btree update ≡ false → entries_of (with_update update keys) btree ≡ entries_of keys btree
entries_other update keys btree other = entries_of-with_update update keys btree ∙ ap (λ b. cond b (put_at pos_cmp update.pos update.value (entries_of keys btree)) (entries_of keys btree)) other

module _ (update : Update) (keys : KeyMap) (is : IsKeyMap keys) (counter next : ℕ) (sets : SetsCounter update counter next) where
  no_other : (btree : Btree) → (8 == btree_code btree) ≡ false → is_update_of btree update ≡ false
  no_other btree apart = of_no_other update Counters btree sets.of_counters apart

  -- An update of a counter changes nothing that shows.
  pub counter_shows_same : ShowSame keys (with_update update keys)
  counter_shows_same = record {
    snaps = snaps_of-with_update update keys is (no_other Snapshots refl);
    subvols = entries_other update keys Subvols (no_other Subvols refl);
    each = alike_unseen update keys is (no_other Snapshots refl) (record { extents = no_other Extents refl; inodes = no_other Inodes refl; dirents = no_other Dirents refl });
  }

  -- It names no number.
  pub counter_leaves_unused : (number : ℕ) → IsUnused keys number → IsUnused (with_update update keys) number
  counter_leaves_unused number unused = record { each = λ btree. all-with_update (NamesOthers number btree) update keys btree (λ of put value. names_none btree of put) (unused.each btree) }
    where
      names_none : (btree : Btree) → is_update_of btree update ≡ true → (put : Value) → NamesOthers number btree (update.pos, put)
      names_none Extents of put = absurd (true≢false (sym of ∙ no_other Extents refl))
      names_none Inodes of put = absurd (true≢false (sym of ∙ no_other Inodes refl))
      names_none Dirents of put = absurd (true≢false (sym of ∙ no_other Dirents refl))
      names_none Subvols of put = absurd (true≢false (sym of ∙ no_other Subvols refl))
      names_none Snapshots of put = tt
      names_none Alloc of put = tt
      names_none Backptrs of put = absurd (true≢false (sym of ∙ no_other Backptrs refl))
      names_none Deleted of put = absurd (true≢false (sym of ∙ no_other Deleted refl))
      names_none Counters of put = tt

  module _ (may : MayCountTo keys counter next) where
    -- no counter falls
    none_falls : (other : ℕ) → next_in keys other ≤ next_in (with_update update keys) other
    none_falls other = by (counter == other) refl
      where
        by : (b : Bool) → (counter == other) ≡ b → next_in keys other ≤ next_in (with_update update keys) other
        by true same = let now : next_in (with_update update keys) other ≡ next = next_in-put update keys is sets.of_counters counter next sets.place sets.value other ∙ ap (λ b. cond b next (next_in keys other)) same in
            let was : next_in keys counter ≡ next_in keys other = ap (next_in keys) (eqb-true counter other same) in
            omega (arith, now, was, may.raised)
        by false apart = let now : next_in (with_update update keys) other ≡ next_in keys other = next_in-put update keys is sets.of_counters counter next sets.place sets.value other ∙ ap (λ b. cond b next (next_in keys other)) apart in
            omega (arith, now)

    -- What was drawn is drawn still;
    pub drawn_still : (number : ℕ) → IsDrawn keys number → IsDrawn (with_update update keys) number
    drawn_still number drawn = record { client = drawn.client; count = let more = none_falls (number / numbers_per_client) in omega (arith, more, drawn.count) }

    -- what is below the counter's new number is too.
    pub drawn_now : (n : ℕ) → n < next → IsDrawn (with_update update keys) (counter * numbers_per_client + n)
    drawn_now n below =
        let fits : n < numbers_per_client = omega (arith, below, may.in_range.1) in
        let whose : (counter * numbers_per_client + n) / numbers_per_client ≡ counter = omega (arith, fits) in
        let which : (counter * numbers_per_client + n) % numbers_per_client ≡ n = omega (arith, fits) in
        let now : next_in (with_update update keys) counter ≡ next = next_in-put update keys is sets.of_counters counter next sets.place sets.value counter ∙ ap (λ b. cond b next (next_in keys counter)) (eq-eqb counter counter refl) in
        record {
          client = let lt = may.client_fits in omega (arith, whose, lt);
          count = subst (λ c. (counter * numbers_per_client + n) % numbers_per_client < next_in (with_update update keys) c) (sym whose) (omega (arith, which, now, below));
        }

    -- a counter that stood in its range does so still
    counter_still : (first last other : ℕ) → (counter ≡ other → IsInRange first last next) → IsCounterFrom keys first last other → IsCounterFrom (with_update update keys) first last other
    counter_still first last other fits was = by (counter == other) refl
      where
        by : (b : Bool) → (counter == other) ≡ b → IsCounterFrom (with_update update keys) first last other
        by true same = let now = counter_in-put update keys is sets.of_counters counter next sets.place sets.value other ∙ ap (λ b. cond b (Some next) (counter_in keys other)) same in
            record { there = subst IsSome (sym now) refl; in_range = subst (λ (o : Option ℕ). IsInRange first last (unwrap_or o 0)) (sym now) (fits (eqb-true counter other same)) }
        by false apart = let now = counter_in-put update keys is sets.of_counters counter next sets.place sets.value other ∙ ap (λ b. cond b (Some next) (counter_in keys other)) apart in
            record { there = subst IsSome (sym now) was.there; in_range = subst (λ (o : Option ℕ). IsInRange first last (unwrap_or o 0)) (sym now) was.in_range }

    -- the key of the counter is one of its btree
    counter_key : (btree : Btree) → is_update_of btree update ≡ true → (put : Value) → update.value ≡ Some put → IsKeyOf (with_update update keys) btree (update.pos, put)
    counter_key Extents of put value = absurd (true≢false (sym of ∙ no_other Extents refl))
    counter_key Inodes of put value = absurd (true≢false (sym of ∙ no_other Inodes refl))
    counter_key Dirents of put value = absurd (true≢false (sym of ∙ no_other Dirents refl))
    counter_key Subvols of put value = absurd (true≢false (sym of ∙ no_other Subvols refl))
    counter_key Snapshots of put value = absurd (true≢false (sym of ∙ no_other Snapshots refl))
    counter_key Alloc of put value = absurd (true≢false (sym of ∙ no_other Alloc refl))
    counter_key Backptrs of put value = absurd (true≢false (sym of ∙ no_other Backptrs refl))
    counter_key Deleted of put value = absurd (true≢false (sym of ∙ no_other Deleted refl))
    counter_key Counters of put value =
        subst (λ (entry : Pos × Value). IsKeyOf (with_update update keys) Counters entry) (λ i. (sym sets.place i, same_Some (values.Counter next) put (sym sets.value ∙ value) i))
        (record {
          stands = record { in_leaf = λ at. refl; above = λ (lt : 0 < 0). absurd (omega (arith, lt)) };
          in_range = tt;
          place = (refl, refl, let lt = may.client_fits in omega (arith, lt));
          id = omega arith;
          numbers = tt;
        })

    -- Fact 1 of tidy keys stays.
    pub counter_keeps_drawn : AreKeysDrawn keys → AreKeysDrawn (with_update update keys)
    counter_keeps_drawn was = record {
      each = λ btree. all-with_update (IsKeyOf (with_update update keys) btree) update keys btree (counter_key btree)
          (All-weaker (IsKeyOf keys btree) (IsKeyOf (with_update update keys) btree) (is_key_of-still keys (with_update update keys) drawn_still btree) (entries_of keys btree) (was.each btree));
      ids = subst (All (λ (entry : Pos × Value). next_in (with_update update keys) id_counter < entry.0.offset)) (sym (entries_other update keys Snapshots (no_other Snapshots refl)))
          (subst (λ n. All (λ (entry : Pos × Value). n < entry.0.offset) keys.snapshots) (sym ids_stay) was.ids);
      clients = λ client lt. counter_still 1 numbers_per_client client (λ same. may.in_range) (was.clients client lt);
      id_counter_there = counter_still 0 4294967294 id_counter (λ same. let lt = may.client_fits in absurd (omega (arith, lt, same))) was.id_counter_there;
    }
      where
        ids_stay : next_in (with_update update keys) id_counter ≡ next_in keys id_counter
        ids_stay = next_in-put update keys is sets.of_counters counter next sets.place sets.value id_counter ∙ ap (λ b. cond b next (next_in keys id_counter)) (ne_eqb counter id_counter (λ same. let lt = may.client_fits in absurd (omega (arith, lt, same))))
