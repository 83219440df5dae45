-- What events of a client make of what is in memory.
use Rattle.std.proofs.Common.{◌≡◌, ◌≢◌, ◌==◌, ℕ, ◌<◌, Bool, true, false, if◌then◌else◌, Option, Some, None, List, [], refl, sym, ap, ◌∙◌, subst, arith, ⊎_elim}
use Rattle.std.specs.Prelude.{IsSome, unwrap_or}
use Rattle.std.proofs.lemmas.Bool.{eq-eqb, eqb-false, eqb-true, true≢false}
use Rattle.std.proofs.lemmas.List.{get_or-set_other, get_or-set_same}
use Rattle.btree_map.specs.Trees.{keys_in}
use Rattle.dirty_nodes.specs.Ids.{id_trees}
use Rattle.core_actors.specs.Actors.{begun, committed, ended, holds, idle_actor, noted, with_ids, with_intent, with_look}
use Rattle.core_volume.specs.Commits.{AreIntended}
use Rattle.core_state.specs.Events.{EventGives, Fits, HasIds, IsMade, Waits, intended_by}
use Rattle.core_volume.specs.Rulings.{IsRefused}
use Rattle.core_state.specs.States.{IsState, State, actor_count, mine, other_holder, with_mine}
use Rattle.core_volume.specs.Volumes.{Volume, commits_of}
use Rattle.core_actors.specs.declared.actor.Actor.{Actor}
use Rattle.core_actors.specs.declared.answer.Answer.{Answer}
use Rattle.core_actors.specs.declared.answer.Answer.TheVariants as answers
use Rattle.core_actors.specs.declared.answer.Refusal.{Refusal}
use Rattle.core_actors.specs.declared.event.Event.TheVariants as events
use Rattle.forest_ops.specs.declared.operation.Op.{Op}
use Rattle.forest_ops.specs.Acknowledged.{synced_count}
use Rattle.forest_ops.specs.History.{is_done}
use Rattle.forest_ops.specs.Steps.{answer_of as reply_of}
use Rattle.forest_ops.specs.declared.operation.Reply.{Reply}
use Rattle.fs_plan.specs.Plans.{IsPlanOf}
use Rattle.fs_plan.specs.declared.planned.Plan.{Plan}
use Rattle.key_meaning.specs.Checks.{IsSound}
use Rattle.key_meaning.specs.Forest.{Read, forest_in}
use Rattle.key_meaning.specs.Tidy.{IsTidy}
use Rattle.vol_session.specs.Sessions.{IsPlanNow, IsSyncedNow, IsUncommitted}
use Rattle.vol_types.specs.KeyMaps.{KeyMap, answer_of}
use Rattle.vol_types.specs.declared.keys.Update.{Update}
use Rattle.vol_types.specs.declared.layout.Layout.{Layout}
use Rattle.vol_types.specs.declared.pointers.Place.{Place}
use Rattle.vol_types.specs.declared.queries.Query.{Query}
use Rattle.vol_session.specs.Writeback.{KeepsKeys}
use Rattle.volume.specs.Serving.{IsChange, IsDoneNow, IsIntended, IsUnderWay, IsUnmade}
use Rattle.volume.specs.States.{IsAtRest, IsIdle}

module _ (client : ℕ) where
  -- A client is one of the actors.
  is_there : client < 16 → client < actor_count
  is_there few = omega (arith, few)

  -- The client has what it was changed to,
  mine_changed : client < 16 → (state : State) → IsState state → (changed : Actor) → mine (with_mine client changed state) client ≡ changed
  mine_changed few state is changed = get_or-set_same state.actors client changed idle_actor (subst (λ (n : ℕ). client < n) (sym is.count) (is_there few))

  -- and the others have what they had.
  others_same : (state : State) (changed : Actor) (other : ℕ) → other ≢ client → mine (with_mine client changed state) other ≡ mine state other
  others_same state changed other apart = get_or-set_other state.actors client other changed idle_actor apart

  -- The other clients have nothing under way.
  abbrev AreIdle : State → Type 0
  AreIdle state = (other : ℕ) → other < 16 → other ≢ client → IsIdle (mine state other)

  idle_still : (state : State) (changed : Actor) → AreIdle state → AreIdle (with_mine client changed state)
  idle_still state changed idle other few apart = subst IsIdle (sym (others_same state changed other apart)) (idle other few apart)

  -- A client at rest may begin an operation.
  pub begin_fits : client < 16 → (memory : State) → IsAtRest memory → Fits memory client (events.Begin true)
  begin_fits few memory rest = record { there = is_there few; fits = record { free = (rest.clients client few).holds_nothing; operation = λ no. absurd (true≢false no) } }

  -- It has it under way then.
  pub record HasBegun (old new : State) : Type 0 where
    pub under : IsUnderWay new client
    pub volume : new.volume ≡ old.volume

  pub has_begun : client < 16 → (old new : State) → IsState old → IsAtRest old → (answer : Answer) → EventGives old client (events.Begin true) answer new → HasBegun old new
  has_begun few old new is rest answer gives =
      let changed = begun true (commits_of old.volume) (mine old client) in
      subst (λ (state : State). HasBegun old state) (sym gives.1) (record {
        under = record {
          there = few;
          operation = subst (λ (a : Actor). IsSome a.operation) (sym (mine_changed few old is changed)) refl;
          turn = ap (other_holder client) rest.turn;
          others = idle_still old changed (λ other less apart. rest.clients other less);
        };
        volume = refl;
      })

  -- Whoever has an operation under way may end it,
  pub finish_fits : (memory : State) → IsUnderWay memory client → Fits memory client events.Finish
  finish_fits memory under = record { there = is_there under.there; fits = under.operation }

  -- and is at rest then.
  pub record HasEnded (old new : State) : Type 0 where
    pub rest : IsAtRest new
    pub volume : new.volume ≡ old.volume

  -- Where the client has nothing under way either, none has.
  all_idle : (state : State) → AreIdle state → IsIdle (mine state client) → (other : ℕ) → other < 16 → IsIdle (mine state other)
  all_idle state idle own other few = by (other == client) refl
    where
      by : (same : Bool) → (other == client) ≡ same → IsIdle (mine state other)
      by true is = subst (λ (n : ℕ). IsIdle (mine state n)) (sym (eqb-true other client is)) own
      by false is = idle other few (eqb-false other client is)

  -- An actor without an operation and a transaction has nothing under way.
  ended_idle : (few : client < 16) (old : State) → IsState old → (changed : Actor) → changed.operation ≡ None → holds changed ≡ false → IsIdle (mine (with_mine client changed old) client)
  ended_idle few old is changed none free = record {
    operation = ap (λ (a : Actor). a.operation) (mine_changed few old is changed) ∙ none;
    holds_nothing = ap holds (mine_changed few old is changed) ∙ free;
  }

  pub has_ended : (old new : State) → IsState old → IsUnderWay old client → (answer : Answer) → EventGives old client events.Finish answer new → HasEnded old new
  has_ended old new is under answer gives =
      let changed = ended (mine old client) in
      subst (λ (state : State). HasEnded old state) (sym gives.1) (record {
        rest = record {
          clients = all_idle (with_mine client changed old) (idle_still old changed under.others) (ended_idle under.there old is changed refl refl);
          turn = under.turn;
        };
        volume = refl;
      })

  -- It may look,
  pub look_fits : (memory : State) → IsUnderWay memory client → (query : Query) → Fits memory client (events.Look query)
  look_fits memory under query = record { there = is_there under.there; fits = under.operation }

  pub look_ids_fits : (memory : State) → IsUnderWay memory client → Fits memory client events.LookIds
  look_ids_fits memory under = record { there = is_there under.there; fits = under.operation }

  -- and has changed so then; the volume stays, and the operation is still under way.
  pub record HasLooked (changed : Actor) (old new : State) : Type 0 where
    pub under : IsUnderWay new client
    pub volume : new.volume ≡ old.volume
    pub mine_is : mine new client ≡ changed

  -- What a look gives.
  abbrev pub LookGives : Query → Answer → State → State → Type 0
  LookGives query (answers.Found found) old new = HasLooked (with_look query found (mine old client)) old new
  LookGives query answers.NoMemory old new = new ≡ old
  LookGives query other old new = ⊥

  abbrev pub IdsGive : Answer → State → State → Type 0
  IdsGive (answers.Ids tree) old new = HasIds (answers.Ids tree) (id_trees (keys_in old.volume.trees)) × HasLooked (with_ids (mine old client)) old new
  IdsGive answers.NoMemory old new = new ≡ old
  IdsGive other old new = ⊥

  -- Nobody else has the turn.
  turned : (holder : Option ℕ) (old : State) (answer : Answer) (new : State) (OrElse : Type 0) → holder ≡ None → Waits holder old answer new OrElse → OrElse
  turned holder old answer new OrElse none waits = subst (λ (h : Option ℕ). Waits h old answer new OrElse) none waits

  module _ (old new : State) (is : IsState old) (under : IsUnderWay old client) where
    -- The turn is its own.
    own_turn : other_holder client (Some client) ≡ None
    own_turn = ap (λ (same : Bool). if same then None else Some client) (eq-eqb client client refl)

    -- The client took the turn, and changed; its operation is the same.
    taking : (changed : Actor) → changed.operation ≡ (mine old client).operation → new ≡ record (with_mine client changed old) { turn = Some client } → HasLooked changed old new
    taking changed same after = subst (λ (state : State). HasLooked changed old state) (sym after) (record {
      under = record {
        there = under.there;
        operation = subst (λ (a : Actor). IsSome a.operation) (sym (mine_changed under.there old is changed)) (subst IsSome (sym same) under.operation);
        turn = own_turn;
        others = idle_still old changed under.others;
      };
      volume = refl;
      mine_is = mine_changed under.there old is changed;
    })

    pub look_gives : (query : Query) (answer : Answer) → EventGives old client (events.Look query) answer new → LookGives query answer old new
    look_gives query answer gives = ⊎_elim
        (λ none. subst (λ (a : Answer). LookGives query a old new) (sym none.0) none.1)
        (λ found. subst (λ (a : Answer). LookGives query a old new) (sym found.0) (taking (with_look query (answer_of query (keys_in old.volume.trees)) (mine old client)) refl found.1))
        (turned (other_holder client old.turn) old answer new _ under.turn gives)

    ids_of : (answer : Answer) → HasIds answer (id_trees (keys_in old.volume.trees)) → HasLooked (with_ids (mine old client)) old new → IdsGive answer old new
    ids_of (answers.Ids tree) has looked = (has, looked)
    ids_of other has looked = absurd has

    pub ids_give : (answer : Answer) → EventGives old client events.LookIds answer new → IdsGive answer old new
    ids_give answer gives = ⊎_elim
        (λ none. subst (λ (a : Answer). IdsGive a old new) (sym none.0) none.1)
        (λ found. ids_of answer found.0 (taking (with_ids (mine old client)) refl found.1))
        (turned (other_holder client old.turn) old answer new _ under.turn gives)

    pub intend_gives : (updates : List Update) (answer : Answer) → EventGives old client (events.Intend updates) answer new → HasLooked (with_intent (Some updates) (mine old client)) old new
    intend_gives updates answer gives = taking (with_intent (Some updates) (mine old client)) refl (turned (other_holder client old.turn) old answer new _ under.turn gives).1

  -- What was committed leaves the clients at rest, in a session that writes.
  pub record HasCommitted (old new : State) : Type 0 where
    pub rest : IsAtRest new
    pub wrote : old.volume.halted ≡ None
    pub writes : new.volume.halted ≡ old.volume.halted

  pub has_committed : (old new : State) → IsState old → IsUnderWay old client → IsMade old client true new → HasCommitted old new
  has_committed old new is under made =
      let changed = committed true (mine old client) in
      record {
        rest = record {
          clients = λ other few.
              subst (λ (state : State). IsIdle (mine state other)) (sym made.state)
              (all_idle (with_mine client changed old) (idle_still old changed under.others) (ended_idle under.there old is changed refl refl) other few);
          turn = ap (λ (state : State). state.turn) made.state ∙ under.turn;
        };
        wrote = made.allowed.joins.draws.stays.writes;
        writes = ap (λ (volume : Volume). volume.halted) made.made.rest;
      }

  -- What the clients have under way for a commit.
  pub record KeepsIntent (old new : State) : Type 0 where
    pub keys : keys_in new.volume.trees ≡ keys_in old.volume.trees
    pub operation : (mine new client).operation ≡ (mine old client).operation
    pub intended : (mine new client).intended ≡ (mine old client).intended
    pub turn : new.turn ≡ old.turn
    pub layout : new.volume.layout ≡ old.volume.layout
    pub others : (other : ℕ) → other ≢ client → mine new other ≡ mine old other

  -- Where that stays, what it intends makes the change still.
  pub intended_still : (op : Op) (reply : Reply) (old new : State) → KeepsIntent old new → IsIntended old client op reply → IsIntended new client op reply
  intended_still op reply old new keeps is = record {
    under = record {
      there = is.under.there;
      operation = subst IsSome (sym keeps.operation) is.under.operation;
      turn = ap (other_holder client) keeps.turn ∙ is.under.turn;
      others = λ other few apart. subst IsIdle (sym (keeps.others other apart)) (is.under.others other few apart);
    };
    change = is.change;
    intended = subst IsSome (sym keeps.intended) is.intended;
    fit = subst (λ (i : Option (List Update)). AreIntended new.volume.layout.metadata_replicas (unwrap_or i [])) (sym keeps.intended)
        (subst (λ (layout : Layout). AreIntended layout.metadata_replicas (intended_by old client)) (sym keeps.layout) is.fit);
    now = subst (λ (i : Option (List Update)). IsPlanNow new client (record { op = op; updates = unwrap_or i []; reply = reply; commits = true })) (sym keeps.intended)
        (subst (λ (keys : KeyMap). (nodes : List Place) (layout : Layout) → IsSound keys nodes layout → IsTidy keys → IsPlanOf keys nodes layout client (record { op = op; updates = intended_by old client; reply = reply; commits = true }))
        (sym keeps.keys) is.now);
  }

  -- So does what it was told to intend by a plan,
  pub plan_intended : (plan : Plan) (old new : State) → new.volume ≡ old.volume → IsUnderWay new client → (mine new client).intended ≡ Some plan.updates → AreIntended new.volume.layout.metadata_replicas plan.updates
      → IsChange plan.op plan.reply → plan.commits ≡ true → IsPlanNow old client plan → IsIntended new client plan.op plan.reply
  plan_intended plan old new same under intended fit change commits now = record {
    under = under;
    change = change;
    intended = subst IsSome (sym intended) refl;
    fit = subst (λ (i : Option (List Update)). AreIntended new.volume.layout.metadata_replicas (unwrap_or i [])) (sym intended) fit;
    now = subst (λ (i : Option (List Update)). IsPlanNow new client (record { op = plan.op; updates = unwrap_or i []; reply = plan.reply; commits = true })) (sym intended)
        (subst (λ (volume : Volume). (nodes : List Place) (layout : Layout) → IsSound (keys_in volume.trees) nodes layout → IsTidy (keys_in volume.trees)
        → IsPlanOf (keys_in volume.trees) nodes layout client (record { op = plan.op; updates = plan.updates; reply = plan.reply; commits = true })) (sym same)
        (subst (λ (c : Bool). IsPlanNow old client (record { op = plan.op; updates = plan.updates; reply = plan.reply; commits = c })) commits now));
  }

  -- and what the forest would do, it would do still.
  pub done_still : (op : Op) (old new : State) → new.volume ≡ old.volume → IsDoneNow old client op → IsDoneNow new client op
  done_still op old new same done =
      subst
      (λ (volume : Volume). (nodes : List Place) (layout : Layout) → IsSound (keys_in volume.trees) nodes layout → IsTidy (keys_in volume.trees) → (read : Read)
      → is_done (reply_of client op (forest_in (keys_in volume.trees) read)) ≡ true)
      (sym same) done

  -- Works on what is durable leave it,
  pub works_keep : (old new : State) → KeepsKeys client old new → KeepsIntent old new
  works_keep old new keeps = record { keys = keeps.keys; operation = keeps.actor.operation; intended = keeps.actor.intended; turn = keeps.turn; layout = keeps.layout; others = keeps.others }

  -- and leave the clients at rest so.
  pub works_rest : (old new : State) → client < 16 → KeepsKeys client old new → IsAtRest old → IsAtRest new
  works_rest old new few keeps rest = record {
    clients = all_idle new (λ other less apart. subst IsIdle (sym (keeps.others other apart)) (rest.clients other less)) (record {
      operation = keeps.actor.operation ∙ (rest.clients client few).operation;
      holds_nothing = same ∙ (rest.clients client few).holds_nothing;
    });
    turn = keeps.turn ∙ rest.turn;
  }
    where
      same : holds (mine new client) ≡ holds (mine old client)
      same = let looks = keeps.actor.looks in let ids = keeps.actor.has_ids in let intended = keeps.actor.intended in cc

  -- What a plan is for the keys in memory, it is still.
  pub synced_still : (op : Op) (old new : State) → keys_in new.volume.trees ≡ keys_in old.volume.trees → IsSyncedNow old client op → IsSyncedNow new client op
  synced_still op old new same synced =
      subst
      (λ (keys : KeyMap). (nodes : List Place) (layout : Layout) → IsSound keys nodes layout → IsTidy keys → (read : Read) → IsSome (synced_count (reply_of client op (forest_in keys read))))
      (sym same) synced

  -- So does a commit that isn't made, which leaves the volume too.
  pub record IsRefusedStill (answer : Answer) (old new : State) : Type 0 where
    pub keeps : KeepsIntent old new
    pub volume : new.volume ≡ old.volume
    pub unmade : IsUnmade new client answer

  same_still : (old new : State) → new ≡ old → IsRefusedStill answers.NoMemory old new
  same_still old new same =
      subst (λ (state : State). IsRefusedStill answers.NoMemory old state) (sym same)
      (record { keeps = record { keys = refl; operation = refl; intended = refl; turn = refl; layout = refl; others = λ other apart. refl }; volume = refl; unmade = tt })

  noted_still : client < 16 → (old new : State) → IsState old → (refusal : Refusal) → IsRefused old.volume (intended_by old client) true refusal → new ≡ with_mine client (noted refusal (mine old client)) old
      → IsRefusedStill (answers.Refused refusal) old new
  noted_still few old new is refusal refused after =
      let changed = noted refusal (mine old client) in
      subst (λ (state : State). IsRefusedStill (answers.Refused refusal) old state) (sym after) (record {
        keeps = record {
          keys = refl;
          operation = ap (λ (a : Actor). a.operation) (mine_changed few old is changed);
          intended = ap (λ (a : Actor). a.intended) (mine_changed few old is changed);
          turn = refl;
          layout = refl;
          others = others_same old changed;
        };
        volume = refl;
        unmade = subst (λ (a : Actor). IsRefused old.volume (unwrap_or a.intended []) true refusal) (sym (mine_changed few old is changed)) refused;
      })

  pub refused_still : client < 16 → (old new : State) → IsState old → (answer : Answer) → IsUncommitted old client answer new → IsRefusedStill answer old new
  refused_still few old new is (answers.Refused refusal) not = noted_still few old new is refusal not.0 not.1
  refused_still few old new is answers.NoMemory not = same_still old new not
  refused_still few old new is other not = absurd not
