-- What a table keeps stays so after each call.
use Rattle.std.proofs.Common.{◌≡◌, ◌≢◌, ℕ, ◌<◌, ◌^◌, List, [], length, slice_get, slice_set, Option, Some, None, Result, Ok, Err, IfOk, OnErr, refl, sym, subst, inl, ⊎_elim, ◌∙◌, ap}
use Rattle.std.proofs.lemmas.Bool.{cases_eq}
use Rattle.std.specs.List.{All}
use Rattle.std.proofs.lemmas.List.{length-set}
use Rattle.std.proofs.lemmas.Option.{none-some as none_some, get_or_from_slice_get, slice_get_within}
use Rattle.std.specs.Option.{unwrap_or}
use Rattle.six_lock.specs.Modes.{Mode}
use Rattle.six_lock.specs.Modes.Mode.{Shared, Intent, Exclusive}
use Rattle.six_lock.specs.declared.lock.Ask.{Ask}
use Rattle.six_lock.specs.declared.lock.Ask.TheVariants.{Granted, Held}
use Rattle.lock_table.specs.Tables.{node_at, HoldsOf}
use Rattle.lock_table.specs.Nodes.{EachInUse, IsSameBut, NodeGains, AsksNode, UpgradesNode, LowersNode, ReleasesAll, name_of}
use Rattle.lock_table.specs.Holdings.{IsHolding, IsKept}
use Rattle.lock_table.specs.Calls.{mode_of}
use Rattle.lock_table.specs.declared.table.Mode.{Mode as Wanted}
use Rattle.lock_table.specs.declared.name.NodeName.{NodeName}
use Rattle.lock_table.specs.declared.node.Node.{Node}
use Rattle.lock_table.specs.declared.holding.Holding.{Holding}
use Rattle.lock_table.proofs.Answered.{intent_of}
use Rattle.lock_table.proofs.Noted.{KeepsFor, holding_kept}
use Rattle.lock_table.proofs.Sound.{placed}

-- the same nodes
pub keeps_same : (actor : ℕ) (old new : List (ℕ × Node)) → new ≡ old → KeepsFor actor old new
keeps_same actor old new same = record {
  no_more = λ b m h. (m, subst (λ ns. HoldsOf (node_at ns b) actor m) same h);
  no_less = λ b m h. (m, subst (λ ns. HoldsOf (node_at ns b) actor m) (sym same) h);
  names = λ b m h. ap (λ ns. name_of (node_at ns b)) same;
}

name_held : (node : Option Node) (actor : ℕ) (mode : Mode) → HoldsOf node actor mode → (name : NodeName) × (name_of node ≡ Some name)
name_held None actor mode holds = absurd holds
name_held (Some node) actor mode holds = (node.name, refl)

-- one node has changed, of which the actor holds as much or as little as it did
keeps_but : (actor birth : ℕ) (old new : List (ℕ × Node)) → IsSameBut birth old new
    → ((m : Mode) → HoldsOf (node_at new birth) actor m → (k : Mode) × HoldsOf (node_at old birth) actor k)
    → ((m : Mode) → HoldsOf (node_at old birth) actor m → (k : Mode) × HoldsOf (node_at new birth) actor k)
    → ((m : Mode) → HoldsOf (node_at old birth) actor m → name_of (node_at new birth) ≡ name_of (node_at old birth)) → KeepsFor actor old new
keeps_but actor birth old new same no_more no_less names = record {
  no_more = λ b m h.
      ⊎_elim (λ here. let at = no_more m (subst (λ k. HoldsOf (node_at new k) actor m) here h) in (at.0, subst (λ k. HoldsOf (node_at old k) actor at.0) (sym here) at.1))
      (λ other. (m, subst (λ (o : Option Node). HoldsOf o actor m) (same b other) h)) (cases_eq b birth);
  no_less = λ b m h.
      ⊎_elim (λ here. let at = no_less m (subst (λ k. HoldsOf (node_at old k) actor m) here h) in (at.0, subst (λ k. HoldsOf (node_at new k) actor at.0) (sym here) at.1))
      (λ other. (m, subst (λ (o : Option Node). HoldsOf o actor m) (sym (same b other)) h)) (cases_eq b birth);
  names = λ b m h.
      ⊎_elim (λ here. subst (λ k. name_of (node_at new k) ≡ name_of (node_at old k)) (sym here) (names m (subst (λ k. HoldsOf (node_at old k) actor m) here h)))
      (λ other. ap name_of (same b other)) (cases_eq b birth);
}

-- another gains a mode
keeps_beside : (sequence actor other : ℕ) (old new : List (ℕ × Node)) (name : NodeName) (mode : Mode) → other ≢ actor → IsSameBut name.birth old new → NodeGains sequence (node_at old name.birth) actor name mode (node_at new name.birth) → KeepsFor other old new
keeps_beside sequence actor other old new name mode differs same gains =
    keeps_but other name.birth old new same
    (λ m h. ⊎_elim (λ was. (m, was)) (λ own. absurd (differs own.0)) ((gains.holds other m).0 h))
    (λ m h. (m, (gains.holds other m).1 (inl h)))
    (λ m h. let named = name_held (node_at old name.birth) other m h in gains.called ∙ ap (λ o. Some (unwrap_or o name)) named.1 ∙ sym named.1)

-- what is kept after one actor's part was written anew
pub kept_set : (old new : List (ℕ × Node)) (before after : List Holding) (count actor : ℕ) (holding : Holding) → IsKept old before count → after ≡ slice_set before actor holding → EachInUse count new
    → ((b a : ℕ) (m : Mode) → HoldsOf (node_at new b) a m → a < count) → ((a : ℕ) → a ≢ actor → KeepsFor a old new) → IsHolding new actor holding → IsKept new after count
kept_set old new before after count actor holding kept is in_use known others own = record {
  few = kept.few;
  counted = ap length is ∙ length-set before actor holding ∙ kept.counted;
  in_use = in_use;
  known = known;
  each = λ a h at.
      ⊎_elim (λ here. subst (λ k. IsHolding new k h) (sym here.0) (subst (IsHolding new actor) here.1 own))
      (λ other. holding_kept a old new h (others a other.0) (kept.each a h other.1))
      (placed before actor a holding h (ap (λ hs. slice_get hs a) (sym is) ∙ at));
}

-- what is kept where every actor holds as much or as little as it did
pub kept_all : (old new : List (ℕ × Node)) (holdings : List Holding) (count : ℕ) → IsKept old holdings count → EachInUse count new → ((a : ℕ) → KeepsFor a old new) → IsKept new holdings count
kept_all old new holdings count kept in_use keeps = record {
  few = kept.few;
  counted = kept.counted;
  in_use = in_use;
  known = λ b a m h. let before = (keeps a).no_more b m h in kept.known b a before.0 before.1;
  each = λ a h at. holding_kept a old new h (keeps a) (kept.each a h at);
}

-- after an ask
pub kept_asked : (sequence : ℕ) (old new : List (ℕ × Node)) (before after : List Holding) (count actor : ℕ) (name : NodeName) (mode : Wanted) (answer : Ask) (holding : Holding) → actor < count → IsKept old before count
    → after ≡ slice_set before actor holding → EachInUse count new → AsksNode sequence old actor name (mode_of mode) answer new → IsHolding new actor holding → IsKept new after count
kept_asked sequence old new before after count actor name mode Granted holding lt kept is in_use asks own =
    kept_set old new before after count actor holding kept is in_use known (λ a other. keeps_beside sequence actor a old new name (mode_of mode) other asks.1 asks.2) own
  where
    known_here : (a : ℕ) (m : Mode) → HoldsOf (node_at new name.birth) a m → a < count
    known_here a m h = ⊎_elim (λ was. kept.known name.birth a m was) (λ gained. subst (λ (k : ℕ). k < count) (sym gained.0) lt) ((asks.2.holds a m).0 h)

    known : (b a : ℕ) (m : Mode) → HoldsOf (node_at new b) a m → a < count
    known b a m h = ⊎_elim (λ here. known_here a m (subst (λ k. HoldsOf (node_at new k) a m) here h)) (λ other. kept.known b a m (subst (λ (o : Option Node). HoldsOf o a m) (asks.1 b other) h)) (cases_eq b name.birth)
kept_asked sequence old new before after count actor name mode (Held holder) holding lt kept is in_use asks own =
    kept_set old new before after count actor holding kept is in_use (λ b a m h. kept.known b a m (subst (λ ns. HoldsOf (node_at ns b) a m) asks.1 h)) (λ a other. keeps_same a old new asks.1) own

-- where nothing became of an ask
pub kept_failed : (old new : List (ℕ × Node)) (before after : List Holding) (count actor : ℕ) (holding : Holding) → IsKept old before count → after ≡ slice_set before actor holding → EachInUse count new → new ≡ old
    → IsHolding new actor holding → IsKept new after count
kept_failed old new before after count actor holding kept is in_use same own =
    kept_set old new before after count actor holding kept is in_use (λ b a m h. kept.known b a m (subst (λ ns. HoldsOf (node_at ns b) a m) same h)) (λ a other. keeps_same a old new same) own

-- after an upgrade
pub kept_upgraded : (old new : List (ℕ × Node)) (holdings : List Holding) (count birth actor : ℕ) (answer : Ask) → IsKept old holdings count → EachInUse count new → HoldsOf (node_at old birth) actor Intent
    → UpgradesNode old birth actor answer new → IsKept new holdings count
kept_upgraded old new holdings count birth actor Granted kept in_use intent upgrades =
    kept_all old new holdings count kept in_use (λ a. keeps_but a birth old new upgrades.1
    (λ m h. ⊎_elim (λ was. (m, was)) (λ gained. (Intent, subst (λ k. HoldsOf (node_at old birth) k Intent) (sym gained.0) intent)) ((upgrades.3 a m).0 h))
    (λ m h. (m, (upgrades.3 a m).1 (inl h))) (λ m h. upgrades.2))
kept_upgraded old new holdings count birth actor (Held holder) kept in_use intent upgrades = kept_all old new holdings count kept in_use (λ a. keeps_same a old new upgrades.2)

-- after an exclusive use has ended
pub kept_lowered : (old new : List (ℕ × Node)) (holdings : List Holding) (count birth : ℕ) → IsKept old holdings count → EachInUse count new
    → LowersNode old birth new → IsKept new holdings count
kept_lowered old new holdings count birth kept in_use lowers =
    kept_all old new holdings count kept in_use (λ a. keeps_but a birth old new lowers.same (λ m h. (m, ((lowers.holds a m).0 h).0)) (λ m h. stays a m h) (λ m h. lowers.name))
  where
    stays : (a : ℕ) (m : Mode) → HoldsOf (node_at old birth) a m → (k : Mode) × HoldsOf (node_at new birth) a k
    stays a Shared h = (Shared, (lowers.holds a Shared).1 (h, λ e. let f : Shared ≡ Exclusive = e in cc))
    stays a Intent h = (Intent, (lowers.holds a Intent).1 (h, λ e. let f : Intent ≡ Exclusive = e in cc))
    stays a Exclusive h = (Intent, (lowers.holds a Intent).1 (intent_of (node_at old birth) a h, λ e. let f : Intent ≡ Exclusive = e in cc))

-- after an actor has let go of all
pub kept_released : (sequence last : ℕ) (old new : List (ℕ × Node)) (before after : List Holding) (count actor : ℕ) (holding : Holding) → IsKept old before count → after ≡ slice_set before actor holding → EachInUse count new
    → ReleasesAll sequence old actor last new → IsHolding new actor holding → IsKept new after count
kept_released sequence last old new before after count actor holding kept is in_use releases own =
    kept_set old new before after count actor holding kept is in_use (λ b a m h. kept.known b a m ((releases.holds b a m).0 h).0) (λ a other. record {
      no_more = λ b m h. (m, ((releases.holds b a m).0 h).0);
      no_less = λ b m h. (m, (releases.holds b a m).1 (h, other));
      names = λ b m h. ⊎_elim (λ gone. absurd (not_gone b a m gone ((releases.holds b a m).1 (h, other)))) (λ named. named) (releases.names b);
    }) own
  where
    not_gone : (b a : ℕ) (m : Mode) → node_at new b ≡ None → HoldsOf (node_at new b) a m → ⊥
    not_gone b a m gone h = let none : HoldsOf None a m = subst (λ (o : Option Node). HoldsOf o a m) gone h in none

-- after an ask, or where it failed
pub kept_either : {E : Type 0} (sequence : ℕ) (old new : List (ℕ × Node)) (before after : List Holding) (count actor : ℕ) (name : NodeName) (mode : Wanted) (result : Result Ask E) (holding : Holding) → actor < count → IsKept old before count
    → after ≡ slice_set before actor holding → EachInUse count new → IfOk result (λ answer. AsksNode sequence old actor name (mode_of mode) answer new) → OnErr result (new ≡ old) → IsHolding new actor holding → IsKept new after count
kept_either sequence old new before after count actor name mode (Ok answer) holding lt kept is in_use asks same own = kept_asked sequence old new before after count actor name mode answer holding lt kept is in_use asks own
kept_either sequence old new before after count actor name mode (Err e) holding lt kept is in_use asks same own = kept_failed old new before after count actor holding kept is in_use same own

-- before any ask
pub kept_fresh : (nodes : List (ℕ × Node)) (holdings : List Holding) (count : ℕ) → nodes ≡ [] → count < 2 ^ 8 → length holdings ≡ count → All (λ holding. holding.highest ≡ None) holdings → IsKept nodes holdings count
kept_fresh nodes holdings count empty few counted free = record {
  few = few;
  counted = counted;
  in_use = λ b n is. absurd (none_some n (sym (none b) ∙ is));
  known = λ b a m h. absurd (nobody b a m h);
  each = λ a h at. record {
    listed = λ b m holds. absurd (nobody b a m holds);
    up_to = λ b m name holds named. absurd (nobody b a m holds);
    reached = λ top is. absurd (none_some top (sym (subst (λ (k : Holding). k.highest ≡ None) (get_or_from_slice_get holdings a h h at) (free a h (slice_get_within holdings a h at))) ∙ is));
  };
}
  where
    none : (b : ℕ) → node_at nodes b ≡ None
    none b = ap (λ ns. node_at ns b) empty

    nobody : (b a : ℕ) (m : Mode) → HoldsOf (node_at nodes b) a m → ⊥
    nobody b a m h = subst (λ (o : Option Node). HoldsOf o a m) (none b) h
