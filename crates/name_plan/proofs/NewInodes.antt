-- What making a file or a directory comes to is what the forest makes of it: its refusals in their order, and the new inode.
use Rattle.std.proofs.Common.{◌≡◌, ℕ, ◌+◌, ◌*◌, ◌<◌, Bool, true, false, cond, None, List, [], ◌∷◌, refl, sym, ap, ◌∙◌, subst, arith}
use Rattle.std.specs.Prelude.{All, Result, Ok, Err, Some, is_some, nat_le, slice_index}
use Rattle.std.specs.Option.{ok_or}
use Rattle.std.proofs.lemmas.List.FromFn.{get_or-map-range_with_len}
use Rattle.dirent_keys.specs.Names.{refusal_of, step_to_add}
use Rattle.dirent_keys.specs.declared.step.NameStep.{NameStep}
use Rattle.forest_ops.specs.Along.{made_in as made_under}
use Rattle.forest_ops.specs.AlongLaws.{made-along}
use Rattle.forest_ops.specs.Names.{is_crowded}
use Rattle.forest_ops.specs.RefusalLaws.{agrees-refused_if, agrees-same, agrees-seen}
use Rattle.forest_ops.specs.Refusals.{◌>>=◌, Agrees, refused_if}
use Rattle.forest_ops.specs.Steps.{Next, drawn, in_subvolume, is_spent, made, next_of}
use Rattle.forest_ops.specs.Trees.{Place as NamePlace, with_directory, with_file}
use Rattle.forest_ops.specs.Walking.{Directory as FoundDirectory}
use Rattle.forest_ops.specs.declared.operation.Cause.{Cause}
use Rattle.forest_ops.specs.declared.operation.Cause.TheVariants.{Crowded, Exists, IdsSpent, ReadOnly}
use Rattle.forest_ops.specs.declared.operation.Reply.TheVariants.{Okay}
use Rattle.inode_keys.specs.Draws.{IfDrawn, counter_update, draw_in}
use Rattle.inode_keys.specs.Inodes.{new_inode}
use Rattle.inode_keys.specs.declared.numbers.Draw.TheVariants.{Drawn, Spent}
use Rattle.key_meaning.specs.Forest.{Read, forest_in, names_in as names_shown, next_in}
use Rattle.key_steps.specs.Names.{AddsName}
use Rattle.key_steps.specs.Shown.{Shown, with_inode, with_links}
use Rattle.name_plan.proofs.AddedNames.{IsAdded, checked_alike, few_added, step_is_added}
use Rattle.name_plan.proofs.ChangedForests.{AreOfChange, change_is_step}
use Rattle.name_plan.proofs.FewUpdates.{few_are_made, one_few, then_few}
use Rattle.name_plan.proofs.GoodNames.{some_of}
use Rattle.name_plan.proofs.Results.{agrees_where}
use Rattle.name_plan.specs.NameSteps.{step_made}
use Rattle.name_plan.specs.New.{inode_drawn, inode_made, inode_numbered, link_to, made_at, made_in, put_inode, spent_out, with_new}
use Rattle.path_plan.specs.Looking.{directory_of, spot_along}
use Rattle.path_plan.specs.Made.{AreMade, AreOfStep, IfMade, IsStepMade}
use Rattle.path_plan.specs.PathLaws.{IsSpot, along_is, spot_is}
use Rattle.path_plan.specs.declared.walking.Spot.{Spot}
use Rattle.plain_forest.specs.Forest.{Forest, Tree}
use Rattle.plain_forest.specs.Names.{last_name, parent_names}
use Rattle.plain_forest.specs.Steps as plain
use Rattle.plain_forest.specs.declared.path.Path.{Path}
use Rattle.shown_changes.specs.Changes.{MeansGoodTree}
use Rattle.tree_changes.specs.Trees.{IsFreeName, IsNewNumber}
use Rattle.vol_digest.specs.Digests.{slot_of}
use Rattle.vol_types.specs.Btrees.{btree_code}
use Rattle.vol_types.specs.KeyMaps.{KeyMap}
use Rattle.vol_types.specs.Maps.{value_at}
use Rattle.vol_types.specs.Ranges.{IsInode, name_cmp}
use Rattle.vol_types.specs.Standing.{IsUpdate}
use Rattle.vol_types.specs.declared.keys.Update.{Update}
use Rattle.vol_types.specs.declared.layout.Layout.{Layout}
use Rattle.vol_types.specs.declared.pointers.Place.{Place}
use Rattle.vol_types.specs.declared.values.FileKind.{FileKind}
use Rattle.vol_types.specs.declared.values.FileKind.TheVariants.{Directory, File}
use Rattle.vol_types.specs.declared.values.Link.{Link}
use Rattle.vol_types.specs.declared.values.Sub.{Sub}

-- the number of a client's next inode
abbrev pub number_for : KeyMap → ℕ → ℕ
number_for keys client = client * plain.numbers_per_client + next_in keys client

-- the update by which a client's counter stands at one more
abbrev pub count_update : KeyMap → ℕ → Update
count_update keys client = counter_update client (next_in keys client + 1)

-- What is said of a draw that isn't spent is said of the number and its update.
pub drawn_has : (keys : KeyMap) (client : ℕ) (P : ℕ → List Update → Type 0) → nat_le plain.numbers_per_client (next_in keys client) ≡ false → IfDrawn (draw_in keys client) P → P (number_for keys client) (count_update keys client ∷ [])
drawn_has keys client P more has = subst (λ b. IfDrawn (cond b Spent (Drawn (number_for keys client) (count_update keys client ∷ []))) P) more has

module _ (keys : KeyMap) (nodes : List Place) (layout : Layout) (kind : FileKind) (client : ℕ) (path : Path) where
  abbrev number : ℕ
  number = number_for keys client

  abbrev updates : Spot → List Update → List Update
  updates spot named = count_update keys client ∷ put_inode spot.sub.id number (new_inode kind) ∷ named

  -- the forest with an inode of this number
  abbrev pub with_made : Spot → List ℕ → ℕ → Forest → Forest
  with_made spot name to forest = drawn client (in_subvolume path.sub (with_new kind (record { directory = spot.number; name = name; number = to })) forest)

  -- The updates make the forest with the inode, where they may be made.
  abbrev pub MakesInode : Spot → List ℕ → Type 0
  MakesInode spot name = (named : List Update) → nat_le plain.numbers_per_client (next_in keys client) ≡ false → IsAdded keys spot.sub.id spot.number (link_to kind name number) named → All IsUpdate (updates spot named)
      → AreOfChange keys nodes layout (with_made spot name number) (updates spot named)

  are_few : (spot : Spot) (name : List ℕ) (named : List Update) → IsAdded keys spot.sub.id spot.number (link_to kind name number) named → All IsUpdate (updates spot named) → AreMade (updates spot named)
  are_few spot name named added each =
      few_are_made 3 (updates spot named) (omega arith)
      (then_few 1 2 (count_update keys client ∷ []) (put_inode spot.sub.id number (new_inode kind) ∷ named) (one_few (count_update keys client) refl (λ same. omega (arith, ap btree_code same)))
      (then_few 1 1 (put_inode spot.sub.id number (new_inode kind) ∷ []) named (one_few (put_inode spot.sub.id number (new_inode kind)) refl (λ same. omega (arith, ap btree_code same))) (few_added keys spot.sub.id spot.number (link_to kind name number) named added))) each

  module _ (read : Read) (client_fits : client < 16) (spot : Spot) (name : List ℕ)
      (refused : (link : Link) → plain.check_name link.name (names_shown keys spot.sub.id spot.number) ≡ refusal_of (step_to_add keys spot.sub.id spot.number link))
      (makes : MakesInode spot name) where
    abbrev P : List Update → Next → Type 0
    P us next = All IsUpdate us → AreOfStep keys nodes layout read us next

    abbrev exists : Bool
    exists = is_some (value_at name_cmp name (names_shown keys spot.sub.id spot.number))

    abbrev crowded : Bool
    crowded = is_crowded name (names_shown keys spot.sub.id spot.number)

    -- what the forest says behind the tests of the name, where the client's next number is this one
    abbrev after : ℕ → Bool → Result Next Cause
    after next spent = refused_if spent IdsSpent >>= (λ _. Ok (next_of Okay (with_made spot name (client * plain.numbers_per_client + next) (forest_in keys read))))

    -- what it makes of the name, by its own tests
    abbrev tested : ℕ → Bool → Result Next Cause
    tested next spent = refused_if exists Exists >>= (λ _. refused_if crowded Crowded >>= (λ _. after next spent))

    -- what adding the name comes to with a number
    abbrev step : ℕ → NameStep
    step n = step_to_add keys spot.sub.id spot.number (link_to kind name n)

    by : (spent : Bool) → nat_le plain.numbers_per_client (next_in keys client) ≡ spent
        → Agrees P (inode_drawn kind keys spot.sub.id spot.number name (cond spent Spent (Drawn number (count_update keys client ∷ [])))) (tested (next_in keys client) spent)
    by true is =
        subst (Agrees P (spent_out (step 0))) (sym (checked_alike exists crowded (step 0) (after (next_in keys client) true) (refused (link_to kind name 0))))
        (agrees-same P (step_made (step 0)) (λ _. Err IdsSpent) (λ _. after (next_in keys client) true) (λ us done. refl))
    by false is =
        subst (Agrees P (inode_numbered kind keys spot.sub.id spot.number name number (count_update keys client ∷ []))) (sym (checked_alike exists crowded (step number) (after (next_in keys client) false) (refused (link_to kind name number))))
        (agrees-same P (step_made (step number)) (λ named. Ok (updates spot named)) (λ _. after (next_in keys client) false) (λ named done each.
        let added = step_is_added keys spot.sub.id spot.number (link_to kind name number) named done in
        change_is_step keys nodes layout (with_made spot name number) (updates spot named) read (makes named is added each) (are_few spot name named added each)))

    -- An inode of a name is made, or refused, as by the forest.
    named_agrees : Agrees P (inode_made kind keys client spot.sub.id spot.number name) (tested (slice_index (forest_in keys read).next client) (is_spent client (forest_in keys read)))
    named_agrees =
        subst (λ next. Agrees P (inode_made kind keys client spot.sub.id spot.number name) (tested next (nat_le plain.numbers_per_client next))) (sym (get_or-map-range_with_len (next_in keys) 0 16 client client 0 client_fits (omega arith)))
        (by (nat_le plain.numbers_per_client (next_in keys client)) refl)

  -- An inode is made at a path, or refused, as by the forest.
  pub made_agrees : client < 16
      → ((spot : Spot) → IsSpot keys path spot → (link : Link) → plain.check_name link.name (names_shown keys spot.sub.id spot.number) ≡ refusal_of (step_to_add keys spot.sub.id spot.number link))
      → ((spot : Spot) (name : List ℕ) → IsSpot keys path spot → last_name path ≡ Some name → MakesInode spot name)
      → (planned : Result (List Update) Cause) → planned ≡ made_at kind keys client path → IfMade planned (All IsUpdate) → IsStepMade keys nodes layout (made (with_new kind) client path) planned
  made_agrees client_fits refused makes planned is fits read =
      agrees_where (All IsUpdate) (AreOfStep keys nodes layout read) planned (made (with_new kind) client path (forest_in keys read))
      (subst (λ p. Agrees (λ us next. All IsUpdate us → AreOfStep keys nodes layout read us next) p (made (with_new kind) client path (forest_in keys read))) (sym is)
      (subst (Agrees (λ us next. All IsUpdate us → AreOfStep keys nodes layout read us next) (made_at kind keys client path))
      (sym (made-along (with_new kind) client path (forest_in keys read) ∙ ap (λ (r : Result FoundDirectory Cause). r >>= made_under (with_new kind) client path (forest_in keys read)) (along_is keys read path (parent_names path))))
      (agrees-seen (λ us next. All IsUpdate us → AreOfStep keys nodes layout read us next) (directory_of keys read) (spot_along keys path (parent_names path)) (made_in kind keys client path) (made_under (with_new kind) client path (forest_in keys read)) (λ spot found.
      agrees-refused_if (λ us next. All IsUpdate us → AreOfStep keys nodes layout read us next) spot.sub.read_only ReadOnly _ _ (λ changeable.
      agrees-same (λ us next. All IsUpdate us → AreOfStep keys nodes layout read us next) (ok_or (last_name path) Exists) _ _ (λ name last.
      let at = spot_is keys path (parent_names path) spot found in
      named_agrees read client_fits spot name (refused spot at) (makes spot name at (some_of (last_name path) Exists name last))))))))
      fits

-- A change of a tree by a new inode of a kind under a new name leaves what shows good, and is what shows then.
abbrev pub MakesGood : FileKind → (NamePlace → Tree → Tree) → Type 0
MakesGood kind change = (read : Read) (sub : Sub) (shown : Shown) (tree : Tree) (place : NamePlace) (links : List Link) → MeansGoodTree read sub shown tree → IsFreeName place tree
    → IsNewNumber tree place.number → shown.inodes place.number ≡ None → ((block : ℕ) → shown.blocks place.number block ≡ None)
    → AddsName (link_to kind place.name place.number) (shown.links place.directory (slot_of place.name)) links
    → MeansGoodTree read sub (with_links place.directory (slot_of place.name) links (with_inode place.number (Some (new_inode kind)) shown)) (change place tree)

-- It is so of each kind where it is of files and of directories.
pub good_by_kind : MakesGood File with_file → MakesGood Directory with_directory → (kind : FileKind) → MakesGood kind (with_new kind)
good_by_kind file directory File = file
good_by_kind file directory Directory = directory

-- The new inode is in range.
pub new_inode_fits : (kind : FileKind) → IsInode (new_inode kind)
new_inode_fits File = record { links = (omega arith, omega arith); size = omega arith }
new_inode_fits Directory = record { links = (omega arith, omega arith); size = omega arith }
