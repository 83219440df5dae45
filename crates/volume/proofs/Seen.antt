-- A plan by the looks of a client holds for the keys in memory.
use Rattle.std.proofs.Common.{◌≡◌, ℕ, ◌^◌, Bool, true, false, cond, Some, None, List, [], ◌∷◌, ◌++◌, refl, sym, ap, ◌∙◌, subst}
use Rattle.std.specs.Prelude.{◌&&◌, ◌==◌, All, IfSome, nat_lt}
use Rattle.std.proofs.lemmas.Bool.{eq-eqb, lt-ltb}
use Rattle.std.proofs.lemmas.List.Elements.{All-head, All-tail}
use Rattle.btree_map.specs.Trees.{keys_in}
use Rattle.dirty_nodes.specs.Ids.{are_id_places, id_trees, is_id_place}
use Rattle.core_state.specs.States.{IsState, State, mine}
use Rattle.core_volume.specs.Volumes.{changes_in}
use Rattle.journal_writer.specs.Changes.{all_made}
use Rattle.journal_writer.specs.Queues.{waiting}
use Rattle.journal_writer.specs.declared.changes.KeyChanges.{KeyChanges}
use Rattle.fs_plan.specs.Plans.{IsPlanOf}
use Rattle.path_plan.specs.Given.{IsGiven}
use Rattle.fs_plan.specs.declared.planned.Plan.{Plan}
use Rattle.key_meaning.specs.Checks.{IsSound}
use Rattle.key_meaning.specs.SoundLaws.{joined_are_trees}
use Rattle.key_meaning.specs.Tidy.{IsKeyOf, IsPlaceIn, IsTidy}
use Rattle.key_meaning.specs.Visible.{snaps_of}
use Rattle.snap_tree.specs.Snaps.{Snaps, are_trees}
use Rattle.vol_session.specs.Sessions.{IsPlanNow, SessionState}
use Rattle.vol_types.specs.KeyMapLaws.{IsKeyMap-with_updates}
use Rattle.vol_types.specs.KeyMaps.{Entries, IsKeyMap, KeyMap, with_updates}
use Rattle.vol_types.specs.declared.layout.Layout.{Layout}
use Rattle.vol_types.specs.declared.pointers.Place.{Place}
use Rattle.vol_types.specs.declared.positions.Btree.TheVariants.{Snapshots}
use Rattle.vol_types.specs.declared.positions.Pos.{Pos}
use Rattle.core_volume.specs.Volumes.{Volume}
use Rattle.dev_model.specs.Devices.{DevicesState}
use Rattle.volume.specs.Planning.{ids_told, standing_in}
use Rattle.volume.specs.Serving.{IsStepped}

-- Changes made in turn leave a key map one.
made_map : (changes : List KeyChanges) (keys : KeyMap) → IsKeyMap keys → IsKeyMap (all_made changes keys)
made_map [] keys is = is
made_map (first ∷ later) keys is = made_map later (with_updates first.updates keys) (IsKeyMap-with_updates first.updates keys is)

-- So the keys in memory are one.
pub keys_are_map : (memory : State) → IsState memory → IsKeyMap (keys_in memory.volume.trees)
keys_are_map memory is = subst IsKeyMap (sym is.volume.lead.last) (made_map (changes_in memory.volume.writer.flight ++ waiting memory.volume.queue) is.volume.durable_keys is.volume.are_keys)

all_three : (a b c : Bool) → a ≡ true → b ≡ true → c ≡ true → (a && b && c) ≡ true
all_three a b c first second third = ap (λ t. t && b && c) first ∙ ap (λ t. t && c) second ∙ third

-- A position of an id's record is the place of one.
place_of_id : (pos : Pos) → IsPlaceIn Snapshots pos → is_id_place pos ≡ true
place_of_id pos is = all_three (pos.inode == 0) (nat_lt pos.offset (2 ^ 32)) (pos.snapshot == 0) (eq-eqb pos.inode 0 is.0) (lt-ltb pos.offset (2 ^ 32) is.2) (eq-eqb pos.snapshot 0 is.1)

places_of_ids : (keys : KeyMap) (entries : Entries) → All (IsKeyOf keys Snapshots) entries → are_id_places entries ≡ true
places_of_ids keys [] all = refl
places_of_ids keys (entry ∷ entries) all =
    ap (λ t. t && are_id_places entries) (place_of_id entry.0 (All-head (IsKeyOf keys Snapshots) entry entries all).place)
    ∙ places_of_ids keys entries (All-tail (IsKeyOf keys Snapshots) entry entries all)

-- The trees of the ids of sound and tidy keys have them all.
pub sound_ids : (keys : KeyMap) (nodes : List Place) (layout : Layout) → IsSound keys nodes layout → IsTidy keys → snaps_of keys ≡ id_trees keys
sound_ids keys nodes layout sound tidy =
    let places : are_id_places keys.snapshots ≡ true = places_of_ids keys keys.snapshots (tidy.drawn.each Snapshots) in
    let trees : are_trees (snaps_of keys) ≡ true = (joined_are_trees keys sound.trees).trees in
    let both : (are_id_places keys.snapshots && are_trees (snaps_of keys)) ≡ true = ap (λ t. t && are_trees (snaps_of keys)) places ∙ trees in
    sym (ap (λ t. cond t (snaps_of keys) []) both)

ids_are : (keys : KeyMap) (has : Bool) → snaps_of keys ≡ id_trees keys → IfSome (cond has (Some (id_trees keys)) None) (λ (tree : Snaps). snaps_of keys ≡ tree)
ids_are keys true same = same
ids_are keys false same = tt

-- What holds of each key map that gives the looks of a client, and whose ids it was told, holds of the keys in memory.
pub plan_now : (memory : State) → IsState memory → (client : ℕ) (plan : Plan)
    → ((keys : KeyMap) (nodes : List Place) (layout : Layout) → IsGiven keys (mine memory client).looks (ids_told memory client) → IsSound keys nodes layout → IsTidy keys → IsPlanOf keys nodes layout client plan)
    → IsPlanNow memory client plan
plan_now memory is client plan holds nodes layout sound tidy =
    let keys = keys_in memory.volume.trees in
    holds keys nodes layout (record {
      is_map = keys_are_map memory is;
      gives = (is.each client).looks;
      ids = ids_are keys (mine memory client).has_ids (sound_ids keys nodes layout sound tidy);
    }) sound tidy

-- So it is of the session that a view showed.
pub plan_shown : {D : Type 0} (kept : State) (session view : SessionState D) (asking client : ℕ) (plan : Plan) → asking ≡ client → kept ≡ session.core.memory → IsState kept → session ≡ view
    → ((keys : KeyMap) (nodes : List Place) (layout : Layout) → IsGiven keys (mine view.core.memory client).looks (ids_told view.core.memory client) → IsSound keys nodes layout → IsTidy keys → IsPlanOf keys nodes layout asking plan)
    → IsPlanNow session.core.memory client plan
plan_shown {D} kept session view asking client plan asks same is shown holds =
    subst (λ (s : SessionState D). IsPlanNow s.core.memory client plan) (sym shown)
    (plan_now view.core.memory (subst (λ (s : SessionState D). IsState s.core.memory) shown (subst IsState same is)) client plan
    (λ keys nodes layout given sound tidy. subst (λ (n : ℕ). IsPlanOf keys nodes layout n plan) asks (holds keys nodes layout given sound tidy)))

-- What stays while an operation is planned stays where only what a client has under way has changed.
pub stands_still : {D : Type 0} (state : D → DevicesState) (old new : SessionState D) → IsStepped old new → standing_in state new ≡ standing_in state old
stands_still {D} state old new stepped =
    ap (λ (s : SessionState D). standing_in state s) stepped.rest
    ∙ ap (λ (volume : Volume). record (standing_in state old) { keys = keys_in volume.trees; halted = volume.halted; devices = state new.core.devices }) stepped.volume
    ∙ ap (λ (devices : D). record (standing_in state old) { devices = state devices }) stepped.devices
