-- Changes of the keys of several btrees, one btree after another.
use Rattle.std.proofs.Common.{◌≡◌, ◌≢◌, ℕ, zero, suc, ◌+◌, ◌<◌, ◌≤◌, Bool, true, false, Option, Some, None, List, [], ◌∷◌, ◌++◌, length, refl, sym, ap, ◌∙◌, subst, arith}
use Rattle.std.specs.Prelude.{◌==◌, IsSome, slice_get, slice_index_or, slice_set}
use Rattle.std.proofs.lemmas.Bool.{true≢false, eqb-true, eq-eqb}
use Rattle.std.proofs.lemmas.List.{get_or-set_same, get_or-set_other, length-append, length-set, set-get_or, set-set}
use Rattle.std.proofs.lemmas.Option.{slice_get_past}
use Rattle.btree_map.specs.Applied.{AreMade, Last, made_of}
use Rattle.btree_map.specs.Trees.{no_cut}
use Rattle.node_mem.specs.Nodes.{with_keys}
use Rattle.tree_keys.specs.Changes.{fresh_positions, keys_with, made, placed}
use Rattle.tree_keys.specs.Cuts.{Cut, IsCut, with_entries}
use Rattle.tree_keys.specs.PlanLaws.{all_placed, undone-placed}
use Rattle.vol_types.specs.Maps.{value_at}
use Rattle.vol_types.specs.Positions.{pos_cmp}
use Rattle.vol_types.specs.declared.positions.Pos.{Pos}
use Rattle.vol_types.specs.declared.values.Value.{Value}

-- a number is another one or not
either : (n m : ℕ) (P : Type 0) → (n ≡ m → P) → (n ≢ m → P) → P
either n m P same other = by (n == m) refl
  where
    by : (b : Bool) → (n == m) ≡ b → P
    by true is = same (eqb-true n m is)
    by false is = other (λ eq. true≢false (sym (eq-eqb n m eq) ∙ is))

-- the last of a list, and the others
at_last : {X : Type 0} (xs : List X) (x : X) → slice_get (xs ++ x ∷ []) (length xs) ≡ Some x
at_last [] x = refl
at_last (y ∷ xs) x = at_last xs x

at_others : {X : Type 0} (xs : List X) (x : X) (i : ℕ) → i ≢ length xs → slice_get (xs ++ x ∷ []) i ≡ slice_get xs i
at_others [] x zero other = absurd (other refl)
at_others [] x (suc i) other = refl
at_others (y ∷ xs) x zero other = refl
at_others (y ∷ xs) x (suc i) other = at_others xs x i (λ same. other (ap suc same))

-- with no last values nothing is made
pub made_none : (last : List Last) (cuts : List Cut) → last ≡ [] → AreMade last cuts cuts
made_none last cuts none = record { count = refl; each = λ code. ap (λ (ls : List Last). made_of (slice_get ls code) (slice_index_or cuts code no_cut)) (sym none) }

module _ (all rest : List Last) (values : Last) (old room : List Cut) (code : ℕ) (split : all ≡ rest ++ values ∷ []) (at : code ≡ length rest) (count : length all ≤ length old) (cuts : (k : ℕ) → k < length all → IsCut (slice_index_or old k no_cut)) (placing : room ≡ slice_set old code (placed values (slice_index_or old code no_cut))) where
  abbrev here : Cut
  here = slice_index_or old code no_cut

  longer : length all ≡ length rest + 1
  longer = ap length split ∙ length-append rest (values ∷ [])

  there : code < length old
  there = omega (arith, at, longer, count)

  cut_here : IsCut here
  cut_here = cuts code (omega (arith, at, longer))

  room_here : slice_index_or room code no_cut ≡ placed values here
  room_here = ap (λ (cs : List Cut). slice_index_or cs code no_cut) placing ∙ get_or-set_same old code (placed values here) no_cut there

  room_others : (k : ℕ) → k ≢ code → slice_index_or room k no_cut ≡ slice_index_or old k no_cut
  room_others k other = ap (λ (cs : List Cut). slice_index_or cs k no_cut) placing ∙ get_or-set_other old code k (placed values here) no_cut other

  length_room : length room ≡ length old
  length_room = ap length placing ∙ length-set old code (placed values here)

  -- the room for the earlier btrees can be taken
  pub count_room : length rest ≤ length room
  count_room = omega (arith, length_room, count, longer)

  -- which are as they were
  pub cuts_room : (k : ℕ) → k < length rest → IsCut (slice_index_or room k no_cut)
  cuts_room k lt = subst IsCut (sym (room_others k (λ same. omega (arith, same, lt, at)))) (cuts k (omega (arith, lt, longer)))

  module _ (between : List Cut) (are : AreMade rest room between) where
    between_here : slice_index_or between code no_cut ≡ placed values here
    between_here = are.each code ∙ ap (λ (o : Option Last). made_of o (slice_index_or room code no_cut)) (slice_get_past rest code (omega (arith, at))) ∙ room_here

    -- each position that gets a value has one
    pub placed_between : (pos : Pos) (value : Value) → value_at pos_cmp pos values ≡ Some (Some value) → IsSome (value_at pos_cmp pos (slice_index_or between code no_cut).entries)
    placed_between pos value found = subst (λ (c : Cut). IsSome (value_at pos_cmp pos c.entries)) (sym between_here) (all_placed values here.entries cut_here.rises pos value found)

    there_between : code < length between
    there_between = omega (arith, there, are.count, length_room)

    module _ (new : List Cut) (set : new ≡ slice_set between code (made values (slice_index_or between code no_cut))) where
      new_others : (k : ℕ) → k ≢ code → slice_index_or new k no_cut ≡ slice_index_or between k no_cut
      new_others k other = ap (λ (cs : List Cut). slice_index_or cs k no_cut) set ∙ get_or-set_other between code k (made values (slice_index_or between code no_cut)) no_cut other

      new_here : slice_index_or new code no_cut ≡ made values (placed values here)
      new_here =
          ap (λ (cs : List Cut). slice_index_or cs code no_cut) set
          ∙ get_or-set_same between code (made values (slice_index_or between code no_cut)) no_cut there_between ∙ ap (made values) between_here

      last_here : slice_get all code ≡ Some values
      last_here = ap (slice_get all) at ∙ ap (λ (ls : List Last). slice_get ls (length rest)) split ∙ at_last rest values

      last_others : (k : ℕ) → k ≢ code → slice_get all k ≡ slice_get rest k
      last_others k other = ap (λ (ls : List Last). slice_get ls k) split ∙ at_others rest values k (λ same. other (same ∙ sym at))

      -- one btree more is made
      pub made_more : AreMade all old new
      made_more = record {
        count = ap length set ∙ length-set between code (made values (slice_index_or between code no_cut)) ∙ are.count ∙ length_room;
        each = λ k. either k code (slice_index_or new k no_cut ≡ made_of (slice_get all k) (slice_index_or old k no_cut))
            (λ same. subst (λ (n : ℕ). slice_index_or new n no_cut ≡ made_of (slice_get all n) (slice_index_or old n no_cut)) (sym same)
            (new_here ∙ ap (λ (o : Option Last). made_of o here) (sym last_here)))
            (λ other.
            new_others k other ∙ are.each k ∙ ap (made_of (slice_get rest k)) (room_others k other)
            ∙ ap (λ (o : Option Last). made_of o (slice_index_or old k no_cut)) (sym (last_others k other)));
      }

      -- and what was made so far is sound
      pub cuts_more : IsCut (slice_index_or new code no_cut) → ((k : ℕ) → k < length rest → IsCut (slice_index_or between k no_cut)) → (k : ℕ) → k < length all → IsCut (slice_index_or new k no_cut)
      cuts_more last earlier k lt = either k code (IsCut (slice_index_or new k no_cut))
          (λ same. subst (λ (n : ℕ). IsCut (slice_index_or new n no_cut)) (sym same) last)
          (λ other. subst IsCut (sym (new_others k other)) (earlier k (omega (arith, lt, other, longer, at))))

  -- with the room given back all is as it was
  pub room_undone : (between new : List Cut) (fresh : List Pos) → between ≡ room → fresh ≡ fresh_positions values here.entries
      → new ≡ slice_set between code (with_entries (slice_index_or between code no_cut) (with_keys (keys_with None fresh) (slice_index_or between code no_cut).entries))
      → new ≡ old
  room_undone between new fresh same are set =
      let cleared = λ (c : Cut) (ps : List Pos). with_entries c (with_keys (keys_with None ps) c.entries) in
      let back : cleared (slice_index_or room code no_cut) fresh ≡ here =
      ap (λ (c : Cut). cleared c fresh) room_here ∙ ap (cleared (placed values here)) are ∙ undone-placed values here cut_here in
      set
      ∙ ap (λ (cs : List Cut). slice_set cs code (cleared (slice_index_or cs code no_cut) fresh)) same
      ∙ ap (slice_set room code) back
      ∙ ap (λ (cs : List Cut). slice_set cs code here) placing
      ∙ set-set old code (placed values here) here ∙ set-get_or old code no_cut
