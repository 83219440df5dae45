-- What a session keeps: at its opening, over an event, and with one entry more of its history.
use Rattle.std.proofs.Common.{◌≡◌, ◌≤◌, ◌+◌, ◌-◌, ℕ, true, false, None, Option, Some, List, [], ◌∷◌, ◌++◌, length, refl, sym, ap, subst, ◌∙◌, ⊎_elim, inr, arith}
use Rattle.std.proofs.lemmas.Bool.{leb-true}
use Rattle.std.proofs.lemmas.List.Elements.{All-nil, All-push, All-weaker}
use Rattle.std.proofs.lemmas.Option.{same_Some, slice_get-get_or, slice_get_within}
use Rattle.std.specs.Prelude.{All, IsSome, slice_get}
use Rattle.btree_map.specs.KeyLaws.{key_map-trees}
use Rattle.btree_map.specs.Trees.{keys_in}
use Rattle.core_volume.specs.Commits.{IsCommitted}
use Rattle.core_state.specs.Events.{CommitGives, IsMade, intended_by}
use Rattle.core_state.specs.Opening.{IsOpened}
use Rattle.core_volume.specs.Opening.{opened_by}
use Rattle.core_state.specs.States.{State}
use Rattle.core_actors.specs.declared.answer.Answer.{Answer}
use Rattle.core_actors.specs.declared.answer.Answer.TheVariants as answers
use Rattle.core_volume.specs.Volumes.{IsVolume, KeepParts, Volume, are_durable, changes_in}
use Rattle.dev_model.specs.Devices.{DevicesState, now}
use Rattle.dev_model.specs.Disk.{as_read}
use Rattle.dev_model.specs.FrameLaws.{go_on_here, go_on_then}
use Rattle.dev_model.specs.Frames.{GoOn}
use Rattle.journal_writer.specs.Changes.{LeadTo, changes_of}
use Rattle.journal_writer.specs.Queues.{IsQueue, Queue, joined, oldest, waiting}
use Rattle.journal_writer.specs.declared.changes.KeyChanges.{KeyChanges}
use Rattle.journal_writer.specs.Writers.{Writer}
use Rattle.journal_writer.specs.declared.writer.Flight.{Flight}
use Rattle.forest_ops.specs.History.{History, IsLegalEntry, after_all, commits as is_commit_of, is_done}
use Rattle.forest_ops.specs.HistoryLaws.{EachEntry-none, EachEntry-push, IsLegal-none, IsLegal-push}
use Rattle.forest_ops.specs.Steps.{answer_of}
use Rattle.forest_ops.specs.Classes.{class_of}
use Rattle.forest_ops.specs.declared.operation.Class.TheVariants.{Syncs}
use Rattle.forest_ops.specs.declared.operation.Entry.{Entry}
use Rattle.forest_ops.specs.declared.operation.Op.{Op}
use Rattle.forest_ops.specs.declared.operation.Reply.{Reply}
use Rattle.forest_ops.specs.declared.operation.Reply.TheVariants.{Synced}
use Rattle.fs_plan.specs.Plans.{IsPlanOf, is_planned}
use Rattle.fs_plan.specs.declared.planned.Plan.{Plan}
use Rattle.image_view.specs.Found.{Found, node_places, read_in}
use Rattle.journal_ring.specs.declared.found.FoundEntry.{FoundEntry}
use Rattle.key_meaning.specs.Forest.{Read, forest_in}
use Rattle.plain_forest.specs.Forest.{Forest}
use Rattle.image_reader.specs.Volumes.{last_of, no_entry}
use Rattle.replay.specs.Mending.{KeepsPast}
use Rattle.replay.specs.Volumes.{found_in, trees_read}
use Rattle.replay.specs.declared.volume.Loaded.{Loaded}
use Rattle.forest_ops.specs.Acknowledged.{synced_count}
use Rattle.forest_ops.specs.declared.acks.Ack.{Ack}
use Rattle.vol_core.specs.Left.{KeepsLeft}
use Rattle.vol_core.specs.Rested.{DoCommitsRise}
use Rattle.vol_core.specs.Safety.{MayBegin}
use Rattle.vol_session.specs.Marks.{AreGoodMarks, IsAtMarks, IsGoodMark, commits_found, forest_found}
use Rattle.vol_session.specs.Numbers.{AreNumbersCounted}
use Rattle.vol_session.specs.Sessions.{IsAnswerNow, IsCounted, IsExact, IsFailureNow, IsPlanNow, IsSafeSession, IsSession, IsSyncedNow, IsToldNow, IsUncommitted}
use Rattle.vol_session.specs.Survivors.{BeginsWell}
use Rattle.vol_session.specs.Writing.{KeepsWriter}
use Rattle.vol_types.specs.KeyMaps.{IsKeyMap, KeyMap, with_updates}
use Rattle.vol_types.specs.declared.keys.Update.{Update}
use Rattle.vol_session.proofs.GoodMarks.{good_joined, good_told, memory_means, memory_sound, memory_tidy}
use Rattle.vol_session.proofs.LaterForests.{one_commit_more, same_count}
use Rattle.vol_session.proofs.MarkParts.{AreAtMarks, joined_at, joined_commits, joined_oldest}
use Rattle.vol_session.proofs.MovedMarks.{at_parts, moved_at, moved_commits, moved_durable, moved_layout, moved_rise, parts_at}
use Rattle.vol_session.proofs.UncommittingEvents.{Moves}
use Rattle.vol_session.proofs.NextEntries.{acks_later, acks_synced, acks_told, answer_is_exact, answer_is_legal, commit_is_exact, sync_is_exact, sync_is_legal, sync_is_no_commit}
use Rattle.vol_session.proofs.NumbersKept.{low-committed}
use Rattle.vol_session.proofs.NumbersStepped.{numbers-opened}
use Rattle.vol_session.proofs.Surviving.{FoundKeys, survive_acknowledged, survive_begun, survive_stepped, survive_told}
use Rattle.vol_session.proofs.WriterKept.{writer-committed, writer-opened}

-- ---- the opening

-- The last of the needed entries is the newest one.
last_found : (needed : List FoundEntry) (newest : FoundEntry) → slice_get needed (length needed - 1) ≡ Some newest → last_of needed ≡ newest
last_found needed newest last =
    let within = slice_get_within needed (length needed - 1) newest last in
    same_Some (last_of needed) newest (sym (slice_get-get_or needed (length needed - 1) no_entry within) ∙ last)

module _ (laws : FoundKeys) (tells : Type 0) (loaded : Loaded) (newest : FoundEntry) (start : DevicesState) (last_is : last_of loaded.needed ≡ newest) (memory : State) where
  abbrev loaded_found : Found
  loaded_found = found_in loaded

  abbrev keys : KeyMap
  keys = keys_in loaded.map

  commits_is : newest.entry.commits ≡ commits_found loaded_found
  commits_is = ap (λ (entry : FoundEntry). entry.entry.commits) (sym last_is)

  module _ (is : memory.volume ≡ opened_by loaded.layout loaded.session loaded.map loaded.needed (node_places loaded_found) newest) (writer : KeepsWriter memory.volume) where
    opened_counted : IsCounted loaded_found start start memory.volume [] [] 0
    opened_counted =
        subst (λ (volume : Volume). IsCounted loaded_found start start volume [] [] 0) (sym is)
        (record {
          layout = refl;
          commits_are = let same = commits_is in omega (arith, same);
          counted = refl;
          planned = All-nil (λ (entry : Entry). is_planned entry.op ≡ true);
          durable = All-nil (λ (ack : Ack). commits_found loaded_found + ack.commits ≤ newest.entry.commits);
          acks_are = record { counts = refl; moments = omega arith };
          goes_on = go_on_here start;
          writer = subst KeepsWriter is writer;
          numbers = numbers-opened loaded.layout loaded.session loaded.map loaded.needed (node_places loaded_found) newest loaded_found start last_is refl refl;
        })

    opened_rise : DoCommitsRise memory.volume.writer.flight memory.volume.writer.durable.commits (oldest memory.volume.queue).commits
    opened_rise = subst (λ (volume : Volume). DoCommitsRise volume.writer.flight volume.writer.durable.commits (oldest volume.queue).commits) (sym is) (omega arith)

    module _ (begins : BeginsWell loaded_found start) (left : KeepsLeft loaded_found start start start memory.volume) where
      are_keys : IsKeyMap keys
      are_keys =
          let finds = begins.may_begin.ready.mended.found_on.on.finds in
          subst IsKeyMap (laws.keys (as_read (now start)) loaded_found finds) (key_map-trees (trees_read loaded_found.trees) (laws.trees (as_read (now start)) loaded_found finds))

      opened_at : IsAtMarks loaded_found (keys ∷ []) memory.volume
      opened_at =
          subst (IsAtMarks loaded_found (keys ∷ [])) (sym is)
          (record {
            durable = keys;
            are_keys = are_keys;
            at = record { from = let same = commits_is in omega (arith, same); marked = here };
            lead = record { made = (refl, tt); last = refl };
            entries = (record { from = let same = commits_is in omega (arith, same); marked = here }, tt);
            count = let same = commits_is in omega (arith, same);
          })
        where
          first : 0 ≡ newest.entry.commits - commits_found loaded_found
          first = let same = commits_is in omega (arith, same)

          here : slice_get (keys ∷ []) (newest.entry.commits - commits_found loaded_found) ≡ Some keys
          here = subst (λ (place : ℕ). slice_get (keys ∷ []) place ≡ Some keys) first refl

      opened_good : AreGoodMarks loaded_found start [] (keys ∷ [])
      opened_good count mark is =
          let within = slice_get_within (keys ∷ []) count mark is in
          let first : count ≡ 0 = omega (arith, within) in
          let same : mark ≡ keys = same_Some mark keys (sym is ∙ ap (λ (place : ℕ). slice_get (keys ∷ []) place) first) in
          subst (λ (n : ℕ). IsGoodMark loaded_found start [] n mark) (sym first)
          (subst (IsGoodMark loaded_found start [] 0) (sym same)
          (record { are_keys = are_keys; forest = refl; sound = begins.sound; tidy = begins.tidy; extents = refl }))

      opened_safe : IsSafeSession loaded_found start start memory.volume [] []
      opened_safe = record {
        marks = keys ∷ [];
        good = opened_good;
        at = opened_at;
        survive = survive_begun laws loaded_found start memory.volume 0 (keys ∷ []) begins opened_at opened_good opened_counted left;
        legal = IsLegal-none (forest_found loaded_found start);
        exact = EachEntry-none (IsExact (forest_found loaded_found start));
      }

-- A session over a volume that was loaded keeps what it should.
pub opened : (laws : FoundKeys) (tells : Type 0) (loaded : Loaded) (begun : Found) (start state : DevicesState) (memory : State) → found_in loaded ≡ begun → state ≡ start
    → IsOpened loaded.layout loaded.session loaded.map loaded.needed (node_places (found_in loaded)) memory → IsVolume memory.volume → (tells → MayBegin begun (now start) → KeepsLeft begun start state state memory.volume)
    → IsSession tells begun start state memory [] [] 0
opened laws tells loaded begun start state memory opens starts is volume left =
    let writer = writer-opened loaded.layout loaded.session loaded.map loaded.needed (node_places (found_in loaded)) memory.volume volume is.volume in
    let newest : FoundEntry = is.volume.newest in
    let last : last_of loaded.needed ≡ newest = last_found loaded.needed newest is.volume.last in
    let here : tells → MayBegin (found_in loaded) (now start) → KeepsLeft (found_in loaded) start start start memory.volume =
    subst (λ (f : Found). tells → MayBegin f (now start) → KeepsLeft f start start start memory.volume) (sym opens)
    (subst (λ (s : DevicesState). tells → MayBegin begun (now start) → KeepsLeft begun start s s memory.volume) starts left) in
    subst (λ (f : Found). IsSession tells f start state memory [] [] 0) opens
    (subst (λ (s : DevicesState). IsSession tells (found_in loaded) start s memory [] [] 0) (sym starts)
    (record {
      counted = opened_counted laws tells loaded newest start last memory is.volume.is writer;
      rise = opened_rise laws tells loaded newest start last memory is.volume.is writer;
      past = λ told moment before. refl;
      safe = λ told begins. opened_safe laws tells loaded newest start last memory is.volume.is writer begins (here told begins.may_begin);
    }))

-- ---- an event that commits nothing

-- What the disks were stays over two spans of time.
past_then : (first second third : DevicesState) → first.moment ≤ second.moment → KeepsPast first second → KeepsPast second third → KeepsPast first third
past_then first second third later one other moment before = other moment (omega (arith, before, later)) ∙ one moment before

-- A session keeps it over such an event.
pub stepped : (laws : FoundKeys) (tells : Type 0) (begun : Found) (start old new : DevicesState) (memory after : State) (trace : History) (acks : List Ack) (commits : ℕ) → Moves memory.volume after.volume → KeepsWriter after.volume → AreNumbersCounted begun start new commits after.volume → IsQueue memory.volume.queue
    → GoOn old new → (tells → KeepsPast old new) → (tells → MayBegin begun (now start) → KeepsLeft begun start old new memory.volume)
    → IsSession tells begun start old memory trace acks commits → IsSession tells begun start new after trace acks commits
stepped laws tells begun start old new memory after trace acks commits moves writer numbers queue goes past left is =
    let counted = is.counted in
    record {
      counted = record {
        layout = moved_layout memory.volume after.volume moves ∙ counted.layout;
        commits_are = moved_commits memory.volume after.volume moves ∙ counted.commits_are;
        counted = counted.counted;
        planned = counted.planned;
        durable =
            let later = moved_durable memory.volume after.volume moves is.rise in
            All-weaker (λ (ack : Ack). commits_found begun + ack.commits ≤ memory.volume.writer.durable.commits) (λ (ack : Ack). commits_found begun + ack.commits ≤ after.volume.writer.durable.commits) (λ ack few. omega (arith, few, later)) acks counted.durable;
        acks_are = acks_later start.moment old.moment new.moment trace acks goes.later counted.acks_are;
        goes_on = go_on_then start old new counted.goes_on goes;
        writer = writer;
        numbers = numbers;
      };
      rise = moved_rise memory.volume after.volume moves queue.followed is.rise;
      past = λ told. past_then start old new counted.goes_on.later (is.past told) (past told);
      safe = λ told begins.
          let safe : IsSafeSession begun start old memory.volume trace acks = is.safe told begins in
          record {
            marks = safe.marks;
            good = safe.good;
            at = moved_at memory.volume after.volume moves begun safe.marks safe.at;
            survive = survive_stepped laws begun start old new memory.volume trace acks commits safe.marks begins safe.at safe.good counted (left told begins.may_begin) (past told) goes.later safe.survive;
            legal = safe.legal;
            exact = safe.exact;
          };
    }

-- ---- a commit

-- Updates lead from the durable keys to the keys with them: the clause `joined` of `waiting_changes_lead_from_durable_keys`.
abbrev pub LeadsOn : Type 0
LeadsOn =
    (in_flight : List KeyChanges) (queue : Queue) (updates : List Update) (counted : _) (durable keys : KeyMap) → LeadTo (in_flight ++ waiting queue) durable keys
    → LeadTo (in_flight ++ waiting (joined (changes_of updates keys) counted queue)) durable (with_updates updates keys)

rises_to : (flight : Option Flight) (durable next more : ℕ) → next ≤ more → DoCommitsRise flight durable next → DoCommitsRise flight durable more
rises_to None durable next more to rise = omega (arith, to, rise)
rises_to (Some flight) durable next more to rise = (rise.0, let from = rise.1 in omega (arith, to, from))

module _ (leads : LeadsOn) (begun : Found) (updates : List Update) (old new : Volume) (made : IsCommitted updates true old new) where
  abbrev new_queue : Queue
  new_queue = joined (changes_of updates (keys_in old.trees)) true old.queue

  abbrev new_keys : KeyMap
  new_keys = with_updates updates (keys_in old.trees)

  writer_is : new.writer ≡ old.writer
  writer_is = ap (λ (v : Volume). v.writer) made.rest

  queue_is : new.queue ≡ new_queue
  queue_is = ap (λ (v : Volume). v.queue) made.rest

  committed_rise : DoCommitsRise old.writer.flight old.writer.durable.commits (oldest old.queue).commits → DoCommitsRise new.writer.flight new.writer.durable.commits (oldest new.queue).commits
  committed_rise rise =
      subst (λ (w : Writer). DoCommitsRise w.flight w.durable.commits (oldest new.queue).commits) (sym writer_is)
      (subst (λ (q : Queue). DoCommitsRise old.writer.flight old.writer.durable.commits (oldest q).commits) (sym queue_is)
      (rises_to old.writer.flight old.writer.durable.commits (oldest old.queue).commits (oldest new_queue).commits (joined_oldest (changes_of updates (keys_in old.trees)) old.queue) rise))

  committed_at : (marks : List KeyMap) → IsAtMarks begun marks old → IsAtMarks begun (marks ++ new_keys ∷ []) new
  committed_at marks at =
      let are : AreAtMarks marks (commits_found begun) old.writer.flight old.writer.durable.commits old.queue (keys_in old.trees) = at_parts begun marks old at in
      parts_at begun (marks ++ new_keys ∷ []) new
      (subst (λ (w : Writer). AreAtMarks (marks ++ new_keys ∷ []) (commits_found begun) w.flight w.durable.commits new.queue (keys_in new.trees)) (sym writer_is)
      (subst (λ (q : Queue). AreAtMarks (marks ++ new_keys ∷ []) (commits_found begun) old.writer.flight old.writer.durable.commits q (keys_in new.trees)) (sym queue_is)
      (subst (AreAtMarks (marks ++ new_keys ∷ []) (commits_found begun) old.writer.flight old.writer.durable.commits new_queue) (sym made.keys)
      (joined_at marks (commits_found begun) old.writer.flight old.writer.durable.commits old.queue (keys_in old.trees) are updates
      (leads (changes_in old.writer.flight) old.queue updates true are.durable (keys_in old.trees) are.lead)))))

module _ (tells : Type 0) (begun : Found) (start state : DevicesState) (memory : State) (trace : History) (acks : List Ack) (commits : ℕ) (is : IsSession tells begun start state memory trace acks commits) (client : ℕ) (op : Op) (reply : Reply)
    (planned : is_planned op ≡ true) (unsynced : synced_count reply ≡ None) where
  abbrev opening : Forest
  opening = forest_found begun start

  abbrev entry : Entry
  entry = record { client = client; op = op; reply = reply }

  abbrev longer : History
  longer = trace ++ entry ∷ []

  abbrev read : Read
  read = read_in (as_read (now start))

  -- With the entry of a commit that was made it keeps it.
  pub committed : (leads : LeadsOn) (after : State) → IsVolume memory.volume → KeepParts memory.volume → IsMade memory client true after → ((forest : Forest) → is_commit_of op reply forest ≡ true) → IsPlanNow memory client (record { op = op; updates = intended_by memory client; reply = reply; commits = true })
      → IsSession tells begun start state after longer acks (commits + 1)
  committed leads after volume parts made commit plan_now = record {
    counted = record {
      layout = ap (λ (v : Volume). v.layout) made.made.rest ∙ counted.layout;
      commits_are =
          let one : after.volume.queue.open_entry.commits ≡ memory.volume.queue.open_entry.commits + 1 =
          ap (λ (v : Volume). v.queue.open_entry.commits) made.made.rest ∙ joined_commits (changes_of updates (keys_in memory.volume.trees)) memory.volume.queue in
          let all = counted.commits_are in
          omega (arith, one, all);
      counted = ap (λ (n : ℕ). n + 1) counted.counted ∙ sym (one_commit_more opening trace entry (commit (after_all opening trace)));
      planned = All-push (λ (e : Entry). is_planned e.op ≡ true) trace entry counted.planned planned;
      durable =
          subst (λ (w : Writer). All (λ (ack : Ack). commits_found begun + ack.commits ≤ w.durable.commits) acks) (sym (ap (λ (v : Volume). v.writer) made.made.rest)) counted.durable;
      acks_are = acks_told start.moment state.moment trace acks entry unsynced counted.acks_are;
      goes_on = counted.goes_on;
      writer = writer-committed memory after client true volume counted.writer made;
      numbers = λ moments. low-committed begun commits (state.moment - start.moment) updates memory.volume after.volume parts made.made (counted.numbers moments);
    };
    rise = committed_rise leads begun updates memory.volume after.volume made.made is.rise;
    past = is.past;
    safe = λ told begins.
        let safe : IsSafeSession begun start state memory.volume trace acks = is.safe told begins in
        let plan : Plan = record { op = op; updates = updates; reply = reply; commits = true } in
        let is_plan : IsPlanOf (keys_in memory.volume.trees) (node_places begun) begun.layout client plan =
        plan_now (node_places begun) begun.layout (memory_sound begun start memory.volume trace commits safe.marks safe.at safe.good counted.commits_are counted.counted)
        (memory_tidy begun start memory.volume trace commits safe.marks safe.at safe.good counted.commits_are counted.counted) in
        let means : forest_in (keys_in memory.volume.trees) read ≡ after_all opening trace = memory_means begun start memory.volume trace commits safe.marks safe.at safe.good counted.commits_are counted.counted in
        record {
          marks = safe.marks ++ with_updates updates (keys_in memory.volume.trees) ∷ [];
          good = good_joined begun start memory.volume trace commits safe.marks safe.at safe.good counted.commits_are counted.counted client plan is_plan (commit (after_all opening trace));
          at = committed_at leads begun updates memory.volume after.volume made.made safe.marks safe.at;
          survive = survive_told begun start state trace acks entry safe.survive;
          legal = IsLegal-push opening trace entry safe.legal (answer_is_legal opening trace entry unsynced (is_plan.reply read ∙ ap (answer_of client op) means));
          exact = EachEntry-push (IsExact opening) trace entry safe.exact (commit_is_exact opening opening trace entry (commit opening));
        };
  }
    where
      counted : IsCounted begun start state memory.volume trace acks commits
      counted = is.counted

      updates : List Update
      updates = intended_by memory client

  -- ---- an entry that changes nothing

  module _ (commit : (forest : Forest) → is_commit_of op reply forest ≡ false) (told_now : IsToldNow memory client op reply) where
    told_counted : IsCounted begun start state memory.volume longer acks commits
    told_counted = record {
      layout = is.counted.layout;
      commits_are = is.counted.commits_are;
      counted = is.counted.counted ∙ sym (same_count opening trace entry (commit (after_all opening trace)));
      planned = All-push (λ (e : Entry). is_planned e.op ≡ true) trace entry is.counted.planned planned;
      durable = is.counted.durable;
      acks_are = acks_told start.moment state.moment trace acks entry unsynced is.counted.acks_are;
      goes_on = is.counted.goes_on;
      writer = is.counted.writer;
      numbers = is.counted.numbers;
    }

    module _ (safe : IsSafeSession begun start state memory.volume trace acks) where
      means : forest_in (keys_in memory.volume.trees) read ≡ after_all opening trace
      means = memory_means begun start memory.volume trace commits safe.marks safe.at safe.good is.counted.commits_are is.counted.counted

      -- The entry is legal, and exact.
      abbrev IsGoodEntry : Type 0
      IsGoodEntry = IsLegalEntry opening trace entry × IsExact opening trace entry

      told_entry : IsGoodEntry
      told_entry =
          let sound = memory_sound begun start memory.volume trace commits safe.marks safe.at safe.good is.counted.commits_are is.counted.counted in
          let tidy = memory_tidy begun start memory.volume trace commits safe.marks safe.at safe.good is.counted.commits_are is.counted.counted in
          ⊎_elim
          (λ (answers : IsAnswerNow memory client op reply).
          let own : reply ≡ answer_of client op (after_all opening trace) = answers.answers (node_places begun) begun.layout sound tidy read ∙ ap (answer_of client op) means in
          (answer_is_legal opening trace entry unsynced own, answer_is_exact opening trace entry answers.unfailed))
          (λ (fails : IsFailureNow memory client op reply). (
            inr fails.may,
            λ changes may. subst (λ (forest : Forest). is_done (answer_of client op forest) ≡ true) means (fails.done changes (node_places begun) begun.layout sound tidy read),
          ))
          told_now

      told_safe : IsSafeSession begun start state memory.volume longer acks
      told_safe = record {
        marks = safe.marks;
        good = good_told begun start memory.volume trace commits safe.marks safe.at safe.good is.counted.commits_are is.counted.counted entry;
        at = safe.at;
        survive = survive_told begun start state trace acks entry safe.survive;
        legal = IsLegal-push opening trace entry safe.legal told_entry.0;
        exact = EachEntry-push (IsExact opening) trace entry safe.exact told_entry.1;
      }

    -- With such an entry it keeps it.
    pub told : IsSession tells begun start state memory longer acks commits
    told = record { counted = told_counted; rise = is.rise; past = is.past; safe = λ tell begins. told_safe (is.safe tell begins) }

-- ---- an acknowledgement

module _ (laws : FoundKeys) (tells : Type 0) (begun : Found) (start state : DevicesState) (memory : State) (trace : History) (acks : List Ack) (commits : ℕ) (is : IsSession tells begun start state memory trace acks commits)
    (client : ℕ) (op : Op) (planned : is_planned op ≡ true) (syncs : class_of op ≡ Syncs) (synced_now : IsSyncedNow memory client op)
    (durable : are_durable None memory.volume ≡ true) (left : tells → MayBegin begun (now start) → KeepsLeft begun start state state memory.volume) where
  abbrev whole_opening : Forest
  whole_opening = forest_found begun start

  abbrev sync : Entry
  sync = record { client = client; op = op; reply = Synced commits }

  abbrev ack : Ack
  ack = record { moment = state.moment; commits = commits }

  all_durable : commits_found begun + commits ≤ memory.volume.writer.durable.commits
  all_durable =
      let all = leb-true (memory.volume.queue.open_entry.commits) memory.volume.writer.durable.commits durable in
      let are = is.counted.commits_are in
      omega (arith, all, are)

  synced_counted : IsCounted begun start state memory.volume (trace ++ sync ∷ []) (acks ++ ack ∷ []) commits
  synced_counted = record {
    layout = is.counted.layout;
    commits_are = is.counted.commits_are;
    counted = is.counted.counted ∙ sym (same_count whole_opening trace sync (sync_is_no_commit op (Synced commits) (after_all whole_opening trace) syncs));
    planned = All-push (λ (e : Entry). is_planned e.op ≡ true) trace sync is.counted.planned planned;
    durable = All-push (λ (a : Ack). commits_found begun + a.commits ≤ memory.volume.writer.durable.commits) acks ack is.counted.durable all_durable;
    acks_are = acks_synced start.moment state.moment client commits op trace acks is.counted.acks_are;
    goes_on = is.counted.goes_on;
    writer = is.counted.writer;
    numbers = is.counted.numbers;
  }

  -- The forest after the history answers the operation with a number of commits.
  answered : IsSafeSession begun start state memory.volume trace acks → IsSome (synced_count (answer_of client op (after_all whole_opening trace)))
  answered safe =
      let sound = memory_sound begun start memory.volume trace commits safe.marks safe.at safe.good is.counted.commits_are is.counted.counted in
      let tidy = memory_tidy begun start memory.volume trace commits safe.marks safe.at safe.good is.counted.commits_are is.counted.counted in
      let means = memory_means begun start memory.volume trace commits safe.marks safe.at safe.good is.counted.commits_are is.counted.counted in
      subst (λ (forest : Forest). IsSome (synced_count (answer_of client op forest))) means (synced_now (node_places begun) begun.layout sound tidy (read_in (as_read (now start))))

  synced_safe : BeginsWell begun start → KeepsLeft begun start state state memory.volume → IsSafeSession begun start state memory.volume trace acks → IsSafeSession begun start state memory.volume (trace ++ sync ∷ []) (acks ++ ack ∷ [])
  synced_safe begins here safe = record {
    marks = safe.marks;
    good = good_told begun start memory.volume trace commits safe.marks safe.at safe.good is.counted.commits_are is.counted.counted sync;
    at = safe.at;
    survive =
        survive_told begun start state trace (acks ++ ack ∷ []) sync
        (survive_acknowledged laws begun start state memory.volume trace acks commits safe.marks ack begins safe.at safe.good is.counted here refl refl all_durable safe.survive);
    legal = IsLegal-push whole_opening trace sync safe.legal (sync_is_legal whole_opening trace client commits op is.counted.counted (answered safe));
    exact = EachEntry-push (IsExact whole_opening) trace sync safe.exact (sync_is_exact whole_opening trace sync syncs);
  }

  -- With a sync that acknowledges all commits it keeps it.
  pub acknowledged_all : IsSession tells begun start state memory (trace ++ sync ∷ []) (acks ++ ack ∷ []) commits
  acknowledged_all = record { counted = synced_counted; rise = is.rise; past = is.past; safe = λ told begins. synced_safe begins (left told begins.may_begin) (is.safe told begins) }

-- ---- a commit that isn't made

-- A commit is refused, or finds no memory, where it isn't made; then the volume is as it was.
pub uncommitted : (old new : State) (actor : ℕ) (answer : Answer) → ¬ (answer ≡ answers.Done) → CommitGives old actor true answer new → IsUncommitted old actor answer new × (new.volume ≡ old.volume)
uncommitted old new actor answers.Done not gives = absurd (not refl)
uncommitted old new actor (answers.Refused refusal) not gives = (gives, ap (λ (s : State). s.volume) gives.1)
uncommitted old new actor answers.NoMemory not gives = (gives, ap (λ (s : State). s.volume) gives)
uncommitted old new actor (answers.Found keys) not gives = absurd gives
uncommitted old new actor (answers.Ids tree) not gives = absurd gives
uncommitted old new actor (answers.At stage durable) not gives = absurd gives
uncommitted old new actor (answers.Wait holder) not gives = absurd gives
uncommitted old new actor (answers.DeviceFault dev) not gives = absurd gives

-- A session keeps what it did where the volume stays.
pub stays : (tells : Type 0) (begun : Found) (start state : DevicesState) (memory after : State) (trace : History) (acks : List Ack) (commits : ℕ) → after.volume ≡ memory.volume
    → IsSession tells begun start state memory trace acks commits → IsSession tells begun start state after trace acks commits
stays tells begun start state memory after trace acks commits same is = record {
  counted = subst (λ (v : Volume). IsCounted begun start state v trace acks commits) (sym same) is.counted;
  rise = subst (λ (v : Volume). DoCommitsRise v.writer.flight v.writer.durable.commits (oldest v.queue).commits) (sym same) is.rise;
  past = is.past;
  safe = λ told begins. subst (λ (v : Volume). IsSafeSession begun start state v trace acks) (sym same) (is.safe told begins);
}
