-- What a crash leaves of a session is the volume after a prefix of its commits, with all that was acknowledged by then; and so it stays, whatever the session does.
use Rattle.std.proofs.Common.{◌≡◌, ◌≤◌, ◌<◌, ◌+◌, ◌-◌, ◌++◌, ◌∷◌, [], ℕ, List, cond, length, take, ⊎_elim, sym, ap, subst, ◌∙◌, arith}
use Rattle.std.proofs.lemmas.Bool.{cases_lt}
use Rattle.std.proofs.lemmas.List.{length-append, take-append-le}
use Rattle.std.proofs.lemmas.List.Elements.{All-nil, All-push}
use Rattle.std.proofs.lemmas.Option.{slice_get_within}
use Rattle.std.specs.Prelude.{All, Ok, Result, slice_index_or}
use Rattle.btree_map.specs.KeyLaws.{key_map-trees}
use Rattle.btree_map.specs.Trees.{IsTrees, keys_in}
use Rattle.core_volume.specs.Volumes.{Volume}
use Rattle.dev_model.specs.Devices.{DevicesState}
use Rattle.dev_model.specs.Disk.{Disk, Image, IsCrashImage}
use Rattle.forest_ops.specs.History.{History, after_all, commit_count, commits_of, is_commit}
use Rattle.forest_ops.specs.HistoryLaws.{commits_of-push}
use Rattle.forest_ops.specs.declared.operation.Entry.{Entry}
use Rattle.image_view.specs.Found.{Found, found, node_places}
use Rattle.image_view.specs.declared.fault.MountFault.{MountFault}
use Rattle.key_meaning.specs.Checks.{AreNodesPlaced, IsSound}
use Rattle.plain_forest.specs.Forest.{Forest}
use Rattle.replay.specs.Mending.{IsUntorn, KeepsPast, StandsOnAll}
use Rattle.replay.specs.Untorn.{untorn_before}
use Rattle.replay.specs.Volumes.{trees_read}
use Rattle.forest_ops.specs.Acknowledged.{acknowledged}
use Rattle.forest_ops.specs.declared.acks.Ack.{Ack}
use Rattle.vol_core.specs.Left.{IsLeft, IsLeftAlone, IsLeftOnEach, IsWholeOnAll, KeepsLeft}
use Rattle.vol_types.specs.KeyMaps.{IsKeyMap, KeyMap}
use Rattle.vol_types.specs.declared.layout.Layout.{Layout}
use Rattle.vol_session.proofs.SurvivingAcks.{acknowledged_before, acknowledged_durable, none_after, past_all}
use Rattle.vol_session.proofs.SurvivingBases.{base_enough, base_marked}
use Rattle.vol_session.proofs.SurvivingFiles.{same_forest, same_sound}
use Rattle.vol_session.specs.Marks.{AreGoodMarks, IsAtMarks, IsGoodMark, IsMarkAt, commits_found, forest_found}
use Rattle.vol_session.specs.Sessions.{IsCounted}
use Rattle.vol_session.specs.Survivors.{BeginsWell, HasSurvived, HasSurvivedOnEach, IsAcknowledgedOnAll, Survive}

-- The btrees of what is found are those of a key map: the clauses `trees` and `keys` of `found_btrees_are_a_key_map`.
pub record FoundKeys : Type 0 where
  pub trees : (image : Image) (f : Found) → found image ≡ Ok f → IsTrees (trees_read f.trees)
  pub keys : (image : Image) (f : Found) → found image ≡ Ok f → keys_in (trees_read f.trees) ≡ f.trees.keys

found_map : FoundKeys → (image : Image) (f : Found) → found image ≡ Ok f → IsKeyMap f.trees.keys
found_map laws image f finds = subst IsKeyMap (laws.keys image f finds) (key_map-trees (trees_read f.trees) (laws.trees image f finds))

-- Acknowledgements of commits that are durable.
abbrev AreDurable : Found → Volume → List Ack → Type 0
AreDurable begun volume acks = All (λ (ack : Ack). commits_found begun + ack.commits ≤ volume.writer.durable.commits) acks

-- With what is found in an image none of the commits stands up to the moment of an acknowledgement that were made after it.
abbrev HasNoneLater : Found → DevicesState → History → List Ack → ℕ → Image → Type 0
HasNoneLater begun start trace acks moment image =
    (base : Found) (count : ℕ) → found image ≡ Ok base → base.last.entry.commits ≡ commits_found begun + count → count ≤ commit_count (forest_found begun start) trace → All (λ (ack : Ack). moment ≤ ack.moment → count ≤ ack.commits) acks

-- What is left by a session that began well, told by what was in memory, has survived at any moment, with any acknowledgements of commits that are durable.
left_survives : FoundKeys → (begun : Found) (start state : DevicesState) (volume : Volume) (trace : History) (acks others : List Ack) (commits : ℕ) (marks : List KeyMap)
    → BeginsWell begun start → IsAtMarks begun marks volume → AreGoodMarks begun start trace marks → IsCounted begun start state volume trace acks commits → AreDurable begun volume others
    → (moment : ℕ) (image : Image) → HasNoneLater begun start trace others moment image → IsLeft begun start volume image → HasSurvived begun start trace others moment image
left_survives laws begun start state volume trace acks others commits marks begins at good counted are_durable moment image none_later left =
    let base : Found = left.base in
    let are_keys : IsKeyMap base.trees.keys = found_map laws image base left.finds in
    let marked : IsMarkAt marks (commits_found begun) base.last.entry.commits base.trees.keys = base_marked begun marks volume at base are_keys left.live in
    let from = marked.from in
    let count : ℕ = base.last.entry.commits - commits_found begun in
    let mark : IsGoodMark begun start trace count base.trees.keys = good count base.trees.keys marked.marked in
    let within : count < length marks = slice_get_within marks count base.trees.keys marked.marked in
    let enough : volume.writer.durable.commits ≤ base.last.entry.commits = base_enough begun marks volume at base are_keys left.live in
    let durable : commits_found begun + acknowledged others moment ≤ volume.writer.durable.commits = acknowledged_durable (commits_found begun) volume.writer.durable.commits others moment at.at.from are_durable in
    let marks_are = at.count in
    let commits_are = counted.commits_are in
    let counted_are = counted.counted in
    let most : count ≤ commit_count (forest_found begun start) trace = omega (arith, within, marks_are, commits_are, counted_are) in
    let commits_is : base.last.entry.commits ≡ commits_found begun + count = omega (arith, from) in
    record {
      base = base;
      finds = left.finds;
      in_order = left.in_order;
      layout = left.layout;
      session = left.session;
      leaves = left.leaves;
      sound = subst (IsSound base.trees.keys (node_places base)) (sym left.layout)
          (same_sound begun base begins.sound (left.apart begins.sound) base.trees.keys begun.layout mark.extents mark.tidy mark.sound (subst (AreNodesPlaced (node_places base)) left.layout left.placed));
      tidy = mark.tidy;
      room = left.room;
      count = count;
      commits = commits_is;
      least = omega (arith, durable, enough);
      most = most;
      none_later = none_later base count left.finds commits_is most;
      forest = same_forest begun start image begins.sound (left.files begins.sound) base.trees.keys mark.extents ∙ mark.forest;
    }

-- And what is acknowledged stands whole on every metadata device, with any acknowledgements of commits that are durable.
whole_on_all : (begun : Found) (start state : DevicesState) (volume : Volume) (trace : History) (acks others : List Ack) (commits : ℕ) (marks : List KeyMap) → IsAtMarks begun marks volume → IsCounted begun start state volume trace acks commits → AreDurable begun volume others
    → (moment : ℕ) (image : Image) → IsWholeOnAll volume image → IsAcknowledgedOnAll begun others moment image
whole_on_all begun start state volume trace acks others commits marks at counted are_durable moment image whole =
    let durable : commits_found begun + acknowledged others moment ≤ volume.writer.durable.commits = acknowledged_durable (commits_found begun) volume.writer.durable.commits others moment at.at.from are_durable in
    let durable_is = whole.is.commits in
    record {
      read = whole.read;
      durable = whole.durable;
      finds = whole.finds;
      had = omega (arith, durable, durable_is);
      whole = λ index lt. subst (λ (layout : Layout). StandsOnAll layout image (slice_index_or whole.durable.needed index whole.durable.last)) counted.layout (whole.whole index lt);
    }

-- So it is of whatever a crash leaves at a moment of an event.
module _ (laws : FoundKeys) (begun : Found) (start old new : DevicesState) (volume : Volume) (trace : History) (acks : List Ack) (commits : ℕ) (marks : List KeyMap) (begins : BeginsWell begun start) (at : IsAtMarks begun marks volume)
    (good : AreGoodMarks begun start trace marks) (counted : IsCounted begun start old volume trace acks commits) (left : KeepsLeft begun start old new volume) (others : List Ack) (are_durable : AreDurable begun volume others) where
  survive_here : (moment : ℕ) → old.moment ≤ moment → moment ≤ new.moment → (image : Image) → IsCrashImage (new.disks moment) image → IsUntorn begun.layout start.moment moment new image → HasNoneLater begun start trace others moment image
      → ((mirror : ℕ) (alone : Image) → IsLeftAlone begun mirror image alone → HasNoneLater begun start trace others moment alone) → HasSurvivedOnEach begun start trace others moment image
  survive_here moment from to image may untorn none_later none_alone =
      let there : IsLeftOnEach begun start volume image = left moment from to image may (subst (λ (layout : Layout). IsUntorn layout start.moment moment new image) (sym counted.layout) untorn) in
      record {
        itself = left_survives laws begun start old volume trace acks others commits marks begins at good counted are_durable moment image none_later there.itself;
        alone = λ mirror alone is. left_survives laws begun start old volume trace acks others commits marks begins at good counted are_durable moment alone (none_alone mirror alone is) (there.alone mirror alone is);
        whole = whole_on_all begun start old volume trace acks others commits marks at counted are_durable moment image there.whole;
      }

-- At the opening whatever a crash leaves has survived.
pub survive_begun : FoundKeys → (begun : Found) (start : DevicesState) (volume : Volume) (commits : ℕ) (marks : List KeyMap)
    → BeginsWell begun start → IsAtMarks begun marks volume → AreGoodMarks begun start [] marks → IsCounted begun start start volume [] [] commits
    → KeepsLeft begun start start start volume → Survive begun start start [] []
survive_begun laws begun start volume commits marks begins at good counted left moment from to image may untorn =
    survive_here laws begun start start start volume [] [] commits marks begins at good counted left [] counted.durable moment from to image may untorn
    (λ base count finds commits_are most. All-nil (λ (ack : Ack). moment ≤ ack.moment → count ≤ ack.commits))
    (λ mirror alone is base count finds commits_are most. All-nil (λ (ack : Ack). moment ≤ ack.moment → count ≤ ack.commits))

-- Whatever an event of the core does: all is told by what was in memory when it began.
pub survive_stepped : FoundKeys → (begun : Found) (start old new : DevicesState) (volume : Volume) (trace : History) (acks : List Ack) (commits : ℕ) (marks : List KeyMap)
    → BeginsWell begun start → IsAtMarks begun marks volume → AreGoodMarks begun start trace marks → IsCounted begun start old volume trace acks commits
    → KeepsLeft begun start old new volume → KeepsPast old new → old.moment ≤ new.moment → Survive begun start old trace acks → Survive begun start new trace acks
survive_stepped laws begun start old new volume trace acks commits marks begins at good counted left past later survive moment from to image may untorn =
    ⊎_elim
    (λ (since : old.moment < moment).
    survive_here laws begun start old new volume trace acks commits marks begins at good counted left acks counted.durable moment (omega (arith, since)) to image may untorn
    (λ base count finds commits_are most. past_all count old.moment moment acks since (none_after start.moment old.moment acks counted.acks_are.moments))
    (λ mirror alone is base count finds commits_are most. past_all count old.moment moment acks since (none_after start.moment old.moment acks counted.acks_are.moments)))
    (λ (by_then : moment ≤ old.moment).
    survive moment from by_then image (subst (λ (disks : List Disk). IsCrashImage disks image) (past moment by_then) may) (untorn_before begun.layout start.moment moment old new image past by_then untorn))
    (cases_lt old.moment moment)

-- One more entry of the history leaves what survived.
has_told : (begun : Found) (start : DevicesState) (trace : History) (acks : List Ack) (entry : Entry) (moment : ℕ) (image : Image) → HasSurvived begun start trace acks moment image → HasSurvived begun start (trace ++ entry ∷ []) acks moment image
has_told begun start trace acks entry moment image survived =
    let opening : Forest = forest_found begun start in
    let more : History = cond (is_commit (after_all opening trace) entry) (entry ∷ []) [] in
    let pushed : commits_of opening (trace ++ entry ∷ []) ≡ commits_of opening trace ++ more = commits_of-push opening trace entry in
    let most = survived.most in
    let long : commit_count opening (trace ++ entry ∷ []) ≡ commit_count opening trace + length more = ap (λ (h : History). length h) pushed ∙ length-append (commits_of opening trace) more in
    record {
      base = survived.base;
      finds = survived.finds;
      in_order = survived.in_order;
      layout = survived.layout;
      session = survived.session;
      leaves = survived.leaves;
      sound = survived.sound;
      tidy = survived.tidy;
      room = survived.room;
      count = survived.count;
      commits = survived.commits;
      least = survived.least;
      most = omega (arith, most, long);
      none_later = survived.none_later;
      forest = survived.forest ∙ ap (after_all opening) (sym (ap (take survived.count) pushed ∙ take-append-le survived.count (commits_of opening trace) more most));
    }

pub survive_told : (begun : Found) (start state : DevicesState) (trace : History) (acks : List Ack) (entry : Entry) → Survive begun start state trace acks → Survive begun start state (trace ++ entry ∷ []) acks
survive_told begun start state trace acks entry survive moment from to image may untorn =
    let survived = survive moment from to image may untorn in
    record {
      itself = has_told begun start trace acks entry moment image survived.itself;
      alone = λ mirror alone is. has_told begun start trace acks entry moment alone (survived.alone mirror alone is);
      whole = survived.whole;
    }

-- None of the commits was made after an acknowledgement of all of them.
one_later : (opening : Forest) (trace : History) (acks : List Ack) (ack : Ack) (moment count : ℕ) → ack.commits ≡ commit_count opening trace → count ≤ commit_count opening trace → All (λ (a : Ack). moment ≤ a.moment → count ≤ a.commits) acks
    → All (λ (a : Ack). moment ≤ a.moment → count ≤ a.commits) (acks ++ ack ∷ [])
one_later opening trace acks ack moment count all most none_later = All-push (λ (a : Ack). moment ≤ a.moment → count ≤ a.commits) acks ack none_later (λ early. omega (arith, all, most))

one_base : (result : Result Found MountFault) (one other : Found) → result ≡ Ok one → result ≡ Ok other → one ≡ other
one_base result one other is again = cc

-- However often an image is looked at, it has the same commits.
none_again : (begun : Found) (start : DevicesState) (trace : History) (acks : List Ack) (moment : ℕ) (image : Image) (survived : HasSurvived begun start trace acks moment image) (base : Found) (count : ℕ) → found image ≡ Ok base → base.last.entry.commits ≡ commits_found begun + count
    → All (λ (ack : Ack). moment ≤ ack.moment → count ≤ ack.commits) acks
none_again begun start trace acks moment image survived base count finds commits_are =
    let same : base.last.entry.commits ≡ survived.base.last.entry.commits = ap (λ (f : Found). f.last.entry.commits) (one_base (found image) base survived.base finds survived.finds) in
    let before = survived.commits in
    subst (λ (n : ℕ). All (λ (ack : Ack). moment ≤ ack.moment → n ≤ ack.commits) acks) (let e : survived.count ≡ count = omega (arith, same, before, commits_are) in e) survived.none_later

-- What survived has so with an acknowledgement of all commits more that doesn't count yet.
same_acknowledged : (begun : Found) (start : DevicesState) (trace : History) (acks : List Ack) (ack : Ack) (moment : ℕ) (image : Image) → acknowledged (acks ++ ack ∷ []) moment ≡ acknowledged acks moment → ack.commits ≡ commit_count (forest_found begun start) trace
    → HasSurvived begun start trace acks moment image → HasSurvived begun start trace (acks ++ ack ∷ []) moment image
same_acknowledged begun start trace acks ack moment image same all survived = record {
  base = survived.base;
  finds = survived.finds;
  in_order = survived.in_order;
  layout = survived.layout;
  session = survived.session;
  leaves = survived.leaves;
  sound = survived.sound;
  tidy = survived.tidy;
  room = survived.room;
  count = survived.count;
  commits = survived.commits;
  least = subst (λ (n : ℕ). n ≤ survived.count) (sym same) survived.least;
  most = survived.most;
  none_later = one_later (forest_found begun start) trace acks ack moment survived.count all survived.most survived.none_later;
  forest = survived.forest;
}

same_whole : (begun : Found) (acks more : List Ack) (moment : ℕ) (image : Image) → acknowledged more moment ≡ acknowledged acks moment → IsAcknowledgedOnAll begun acks moment image → IsAcknowledgedOnAll begun more moment image
same_whole begun acks more moment image same whole = record {
  read = whole.read;
  durable = whole.durable;
  finds = whole.finds;
  had = subst (λ (n : ℕ). commits_found begun + n ≤ whole.durable.last.entry.commits) (sym same) whole.had;
  whole = whole.whole;
}

-- One more acknowledgement, at the present moment, of commits that are durable by now.
pub survive_acknowledged : FoundKeys → (begun : Found) (start state : DevicesState) (volume : Volume) (trace : History) (acks : List Ack) (commits : ℕ) (marks : List KeyMap) (ack : Ack)
    → BeginsWell begun start → IsAtMarks begun marks volume → AreGoodMarks begun start trace marks → IsCounted begun start state volume trace acks commits
    → KeepsLeft begun start state state volume → ack.moment ≡ state.moment → ack.commits ≡ commits → commits_found begun + ack.commits ≤ volume.writer.durable.commits
    → Survive begun start state trace acks → Survive begun start state trace (acks ++ ack ∷ [])
survive_acknowledged laws begun start state volume trace acks commits marks ack begins at good counted left now every durable survive moment from to image may untorn =
    let survived = survive moment from to image may untorn in
    let all : ack.commits ≡ commit_count (forest_found begun start) trace = every ∙ counted.counted in
    ⊎_elim
    (λ (before : moment < state.moment).
    let same : acknowledged (acks ++ ack ∷ []) moment ≡ acknowledged acks moment = acknowledged_before acks ack moment (omega (arith, before, now)) in
    record {
      itself = same_acknowledged begun start trace acks ack moment image same all survived.itself;
      alone = λ mirror alone is. same_acknowledged begun start trace acks ack moment alone same all (survived.alone mirror alone is);
      whole = same_whole begun acks (acks ++ ack ∷ []) moment image same survived.whole;
    })
    (λ (since : state.moment ≤ moment).
    survive_here laws begun start state state volume trace acks commits marks begins at good counted left (acks ++ ack ∷ [])
    (All-push (λ (a : Ack). commits_found begun + a.commits ≤ volume.writer.durable.commits) acks ack counted.durable durable) moment since to image may untorn
    (λ base count finds commits_are most. one_later (forest_found begun start) trace acks ack moment count all most (none_again begun start trace acks moment image survived.itself base count finds commits_are))
    (λ mirror alone is base count finds commits_are most. one_later (forest_found begun start) trace acks ack moment count all most (none_again begun start trace acks moment alone (survived.alone mirror alone is) base count finds commits_are)))
    (cases_lt moment state.moment)
