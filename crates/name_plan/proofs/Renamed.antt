-- A rename is refused by the keys as it is by the forest, needs nothing where that has no move, and else moves what the forest moves.
use Rattle.std.proofs.Common.{◌≡◌, ℕ, Bool, true, false, cond, Option, Some, None, List, refl, sym, ap, ◌∙◌, subst}
use Rattle.std.specs.Prelude.{Result, Ok, Err, ◌==◌, ◌&&◌, is_some}
use Rattle.std.specs.Option.{ok_or}
use Rattle.dirent_keys.specs.Moves.{check_move, step_to_move}
use Rattle.dirent_keys.specs.Names.{refusal_of, target_in}
use Rattle.dirent_keys.specs.declared.step.NameStep.{NameStep}
use Rattle.dirent_keys.specs.declared.step.NameStep.TheVariants as steps
use Rattle.forest_ops.specs.Names.{is_above, is_crowded, same_names, same_path}
use Rattle.forest_ops.specs.RefusalLaws.{agrees-refused_if, agrees-same, then_assoc}
use Rattle.forest_ops.specs.Refusals.{◌>>=◌, Agrees, refused_if}
use Rattle.forest_ops.specs.Steps.{RenameFound, after_move, in_subvolume, move_of, move_places, names_left, next_of, renamed}
use Rattle.forest_ops.specs.Trees.{Place as NamePlace, moved}
use Rattle.forest_ops.specs.Walking.{names_in, shared_tree, walk}
use Rattle.forest_ops.specs.declared.operation.Cause.{Cause}
use Rattle.forest_ops.specs.declared.operation.Cause.TheVariants.{Crowded, Exists, Loop, ReadOnly}
use Rattle.forest_ops.specs.declared.operation.Reply.TheVariants.{Okay}
use Rattle.key_meaning.specs.Forest.{Read, forest_in}
use Rattle.key_meaning.specs.Forest as keys_mean
use Rattle.name_plan.proofs.AddedNames.{checked_alike}
use Rattle.name_plan.proofs.Results.{agrees_at_end}
use Rattle.name_plan.proofs.Sources.{directory_then, is_named, leads_under, seen_then, source_then, subs_are_same}
use Rattle.name_plan.specs.Directories.{directory_under}
use Rattle.name_plan.specs.Moved.{AreOfRename, moved_link, moved_to, renamed_at, source_of}
use Rattle.name_plan.specs.NameSteps.{step_made}
use Rattle.name_plan.specs.declared.renaming.Source.{Source}
use Rattle.path_plan.specs.Looking.{shared_sub}
use Rattle.path_plan.specs.Made.{AreOfStep}
use Rattle.path_plan.specs.PathLaws.{shared_is, walks}
use Rattle.plain_forest.specs.Forest.{Forest, Names, Tree}
use Rattle.plain_forest.specs.Names.{last_name, parent_names}
use Rattle.plain_forest.specs.declared.path.Path.{Path}
use Rattle.vol_types.specs.KeyMaps.{KeyMap}
use Rattle.vol_types.specs.Maps.{value_at}
use Rattle.vol_types.specs.Ranges.{name_cmp}
use Rattle.vol_types.specs.declared.keys.Update.{Update}
use Rattle.vol_types.specs.declared.layout.Layout.{Layout}
use Rattle.vol_types.specs.declared.pointers.Place.{Place}
use Rattle.vol_types.specs.declared.values.FileKind.{FileKind}
use Rattle.vol_types.specs.declared.values.Link.{Link}
use Rattle.vol_types.specs.declared.values.Sub.{Sub}

-- a name at two places
abbrev pub Places : Type 0
Places = NamePlace × NamePlace

-- places, where there are some
abbrev some_places : Places → Result (Option Places) Cause
some_places places = Ok (Some places)

-- What follows of two results that agree is said of them, where it follows of the values that they have.
pub agrees_more : {A B : Type 0} (P Q : A → B → Type 0) (planned : Result A Cause) (forest : Result B Cause) → Agrees P planned forest → ((x : A) (y : B) → planned ≡ Ok x → forest ≡ Ok y → P x y → Q x y) → Agrees Q planned forest
agrees_more P Q (Ok x) (Ok y) holds follows = follows x y refl refl holds
agrees_more P Q (Err cause) (Err other) same follows = same
agrees_more P Q (Ok x) (Err other) none follows = absurd none
agrees_more P Q (Err cause) (Ok y) none follows = absurd none

-- What it is that a name moves in the subvolume by some updates.
pub record IsMoveIn (keys : KeyMap) (from to : Path) (updates : List Update) (places : Places) : Type 0 where
  pub sub : Sub
  pub kind : FileKind
  pub shared : shared_sub keys from to ≡ Ok sub
  pub old : directory_under keys sub (parent_names from) ≡ Ok places.0.directory
  pub new : directory_under keys sub (parent_names to) ≡ Ok places.1.directory
  pub target : target_in keys sub.id places.0.directory places.0.name ≡ Some (places.0.number, kind)
  pub same : places.1.number ≡ places.0.number
  pub last : last_name to ≡ Some places.1.name
  pub step : step_to_move keys sub.id places.0.directory places.0.name places.1.directory (record { number = places.1.number; kind = kind; name = places.1.name }) ≡ steps.Done updates

-- The updates are those of the move, where there is one, and else there are none.
abbrev pub AreOfMove : KeyMap → Path → Path → Option (List Update) → Option Places → Type 0
AreOfMove keys from to (Some updates) (Some places) = IsMoveIn keys from to updates places
AreOfMove keys from to None None = Unit {0}
AreOfMove keys from to planned moved = ⊥

module _ (from to : Path) where
  -- what comes of what a rename has found
  abbrev chosen : RenameFound → Result (Option Places) Cause
  chosen ends = cond (same_names from.names to.names) (Ok None) (move_places from to ends >>= some_places)

  abbrev chosen_of : Tree → ℕ → ℕ → Names → Result (Option Places) Cause
  chosen_of tree number directory names = refused_if tree.locked ReadOnly >>= (λ _. chosen (record { tree = tree; number = number; directory = directory; names = names }))

  -- The move of a rename is looked for one thing after the other.
  move_flat : (forest : Forest) → move_of from to forest
      ≡ (shared_tree from to forest >>= (λ tree. walk tree from.names tree.root >>= (λ number. walk tree (parent_names to) tree.root >>= (λ directory. names_in tree directory >>= (λ names. chosen_of tree number directory names)))))
  move_flat forest =
      then_assoc (shared_tree from to forest) (λ tree. walk tree from.names tree.root >>= numbered tree) chosen
      ∙ (λ i. shared_tree from to forest >>= (λ tree. (then_assoc (walk tree from.names tree.root) (numbered tree) chosen ∙ (λ j. walk tree from.names tree.root >>= (λ number. by_number tree number j))) i))
    where
      ended : Tree → ℕ → ℕ → Names → Result RenameFound Cause
      ended tree number directory names = refused_if tree.locked ReadOnly >>= (λ _. Ok (record { tree = tree; number = number; directory = directory; names = names }))

      numbered : Tree → ℕ → Result RenameFound Cause
      numbered tree number = walk tree (parent_names to) tree.root >>= (λ directory. names_in tree directory >>= ended tree number directory)

      by_names : (tree : Tree) (number directory : ℕ) (names : Names) → (ended tree number directory names >>= chosen) ≡ chosen_of tree number directory names
      by_names tree number directory names = then_assoc (refused_if tree.locked ReadOnly) (λ _. Ok (record { tree = tree; number = number; directory = directory; names = names })) chosen

      by_directory : (tree : Tree) (number directory : ℕ) → ((names_in tree directory >>= ended tree number directory) >>= chosen) ≡ (names_in tree directory >>= (λ names. chosen_of tree number directory names))
      by_directory tree number directory = then_assoc (names_in tree directory) (ended tree number directory) chosen ∙ (λ i. names_in tree directory >>= (λ names. by_names tree number directory names i))

      by_number : (tree : Tree) (number : ℕ) → (numbered tree number >>= chosen) ≡ (walk tree (parent_names to) tree.root >>= (λ directory. names_in tree directory >>= (λ names. chosen_of tree number directory names)))
      by_number tree number =
          then_assoc (walk tree (parent_names to) tree.root) (λ directory. names_in tree directory >>= ended tree number directory) chosen
          ∙ (λ i. walk tree (parent_names to) tree.root >>= (λ directory. by_directory tree number directory i))

  module _ (keys : KeyMap) (read : Read) where
    abbrev tree_in : Sub → Tree
    tree_in sub = keys_mean.tree_of keys read sub

    -- what a rename has found, by the keys
    abbrev ends : Sub → Source → ℕ → RenameFound
    ends sub source directory = record { tree = tree_in sub; number = source.number; directory = directory; names = keys_mean.names_in keys sub.id directory }

    -- The move of a rename is looked for so by the keys, too.
    move_is : move_of from to (forest_in keys read)
        ≡ (shared_sub keys from to >>= (λ sub. source_of keys sub from >>= (λ source. directory_under keys sub (parent_names to) >>= (λ directory. refused_if sub.read_only ReadOnly >>= (λ _. chosen (ends sub source directory))))))
    move_is =
        move_flat (forest_in keys read)
        ∙ ap (λ (r : Result Tree Cause). r >>= looked) (shared_is keys read from to)
        ∙ seen_then tree_in (shared_sub keys from to) looked
        ∙ (λ i. shared_sub keys from to >>= (λ sub. in_sub sub i))
      where
        looked : Tree → Result (Option Places) Cause
        looked tree = walk tree from.names tree.root >>= (λ number. walk tree (parent_names to) tree.root >>= (λ directory. names_in tree directory >>= (λ names. chosen_of tree number directory names)))

        in_sub : (sub : Sub) → looked (tree_in sub) ≡ (source_of keys sub from >>= (λ source. directory_under keys sub (parent_names to) >>= (λ directory. refused_if sub.read_only ReadOnly >>= (λ _. chosen (ends sub source directory)))))
        in_sub sub =
            source_then keys sub read from (λ number. walk (tree_in sub) (parent_names to) sub.root >>= (λ directory. names_in (tree_in sub) directory >>= (λ names. chosen_of (tree_in sub) number directory names)))
            ∙ (λ i. source_of keys sub from >>= (λ source. directory_then keys sub read (parent_names to) (λ directory names. chosen_of (tree_in sub) source.number directory names) i))

    module _ (sub : Sub) (source : Source) (directory : ℕ) (shared : shared_sub keys from to ≡ Ok sub) (stands : source_of keys sub from ≡ Ok source) (under : directory_under keys sub (parent_names to) ≡ Ok directory)
        (alike : (name : List ℕ) (link : Link) → check_move (source.directory == directory) name link.name (keys_mean.names_in keys sub.id directory) ≡ refusal_of (step_to_move keys sub.id source.directory name directory link)) where
      abbrev names_there : Names
      names_there = keys_mean.names_in keys sub.id directory

      abbrev old_place : List ℕ → ℕ → NamePlace
      old_place name parent = record { directory = parent; name = name; number = source.number }

      abbrev new_place : List ℕ → NamePlace
      new_place name = record { directory = directory; name = name; number = source.number }

      -- what moving the name comes to
      abbrev step : List ℕ → List ℕ → NameStep
      step name other = step_to_move keys sub.id source.directory name directory (moved_link source other)

      stepped : (name other : List ℕ) → last_name from ≡ Some name → last_name to ≡ Some other → (s : NameStep) → step name other ≡ s
          → Agrees (AreOfMove keys from to) (step_made s >>= (λ updates. Ok (Some updates))) (step_made s >>= (λ _. some_places (old_place name source.directory, new_place other)))
      stepped name other first last (steps.Done updates) is =
          let named = is_named keys sub from name source first stands in record {
            sub = sub;
            kind = source.kind;
            shared = shared;
            old = named.under;
            new = under;
            target = named.target;
            same = refl;
            last = last;
            step = is;
          }
      stepped name other first last steps.Exists is = refl
      stepped name other first last steps.Crowded is = refl

      -- what comes of the tests of a new place
      tested : (there full : Bool) (places : Places) → ((refused_if there Exists >>= (λ _. refused_if full Crowded >>= (λ _. Ok places))) >>= some_places) ≡ (refused_if there Exists >>= (λ _. refused_if full Crowded >>= (λ _. some_places places)))
      tested true full places = refl
      tested false true places = refl
      tested false false places = refl

      -- what the forest makes of the last names
      abbrev placed : Option (List ℕ) → Option (List ℕ) → Result ℕ Cause → Result Places Cause
      placed first last parent =
          (ok_or first Loop >>= (λ name. parent >>= (λ at. Ok (old_place name at)))) >>= (λ old. ok_or last Exists >>= (λ other.
          refused_if (is_some (value_at name_cmp other names_there)) Exists >>= (λ _. refused_if (is_crowded other (names_left old directory names_there)) Crowded >>= (λ _. Ok (old, new_place other)))))

      named : (first last : Option (List ℕ)) → last_name from ≡ first → last_name to ≡ last
          → Agrees (AreOfMove keys from to) (ok_or first Loop >>= (λ name. ok_or last Exists >>= (λ other. step_made (step name other) >>= (λ updates. Ok (Some updates))))) (placed first last (walk (tree_in sub) (parent_names from) sub.root) >>= some_places)
      named None last first_is last_is = refl
      named (Some name) last first_is last_is =
          subst (λ (parent : Result ℕ Cause). Agrees (AreOfMove keys from to) (ok_or last Exists >>= (λ other. step_made (step name other) >>= (λ updates. Ok (Some updates)))) (placed (Some name) last parent >>= some_places))
          (sym (path_leads name first_is)) (by last last_is)
        where
          path_leads : (name : List ℕ) → last_name from ≡ Some name → walk (tree_in sub) (parent_names from) sub.root ≡ Ok source.directory
          path_leads name first_is = walks keys read sub (parent_names from) sub.root ∙ leads_under keys sub (parent_names from) source.directory (is_named keys sub from name source first_is stands).under

          by : (last : Option (List ℕ)) → last_name to ≡ last → Agrees (AreOfMove keys from to) (ok_or last Exists >>= (λ other. step_made (step name other) >>= (λ updates. Ok (Some updates)))) (placed (Some name) last (Ok source.directory) >>= some_places)
          by None last_is = refl
          by (Some other) last_is =
              let places : Places = (old_place name source.directory, new_place other) in
              let there = is_some (value_at name_cmp other names_there) in
              let full = is_crowded other (names_left places.0 directory names_there) in
              subst (Agrees (AreOfMove keys from to) (step_made (step name other) >>= (λ updates. Ok (Some updates))))
              (sym (tested there full places ∙ checked_alike there full (step name other) (some_places places) (alike name (moved_link source other))))
              (stepped name other first_is last_is (step name other) refl)

      above : (b : Bool) → Agrees (AreOfMove keys from to) (refused_if b Loop >>= (λ _. ok_or (last_name from) Loop >>= (λ name. ok_or (last_name to) Exists >>= (λ other. step_made (step name other) >>= (λ updates. Ok (Some updates))))))
          ((refused_if b Loop >>= (λ _. placed (last_name from) (last_name to) (walk (tree_in sub) (parent_names from) sub.root))) >>= some_places)
      above true = refl
      above false = named (last_name from) (last_name to) refl refl

      -- Between equal paths nothing is moved, and else what the forest moves.
      decided : Agrees (AreOfMove keys from to) (cond (same_path from to) (Ok None) (moved_to keys sub.id source directory from to)) (chosen (ends sub source directory))
      decided =
          subst (λ b. Agrees (AreOfMove keys from to) (cond (b && same_names from.names to.names) (Ok None) (moved_to keys sub.id source directory from to)) (chosen (ends sub source directory))) (sym (subs_are_same keys from to sub shared))
          (by (same_names from.names to.names))
        where
          by : (b : Bool) → Agrees (AreOfMove keys from to) (cond (true && b) (Ok None) (moved_to keys sub.id source directory from to)) (cond b (Ok None) (move_places from to (ends sub source directory) >>= some_places))
          by true = tt
          by false = above (is_above from.names to.names)

    -- A rename moves by the keys what it moves in the forest, or both refuse it for one cause.
    pub moves_agree : ((sub : Sub) → shared_sub keys from to ≡ Ok sub → (old : ℕ) (name : List ℕ) (new : ℕ) (link : Link)
        → check_move (old == new) name link.name (keys_mean.names_in keys sub.id new) ≡ refusal_of (step_to_move keys sub.id old name new link))
        → Agrees (AreOfMove keys from to) (renamed_at keys from to) (move_of from to (forest_in keys read))
    moves_agree alike = subst (Agrees (AreOfMove keys from to) (renamed_at keys from to)) (sym move_is)
        (agrees-same (AreOfMove keys from to) (shared_sub keys from to) _ _ (λ sub shared.
        agrees-same (AreOfMove keys from to) (source_of keys sub from) _ _ (λ source stands.
        agrees-same (AreOfMove keys from to) (directory_under keys sub (parent_names to)) _ _ (λ directory under.
        agrees-refused_if (AreOfMove keys from to) sub.read_only ReadOnly _ _ (λ changeable.
        decided sub source directory shared stands under (λ name link. alike sub shared source.directory name directory link))))))

    module _ (nodes : List Place) (layout : Layout) where
      abbrev forest : Forest
      forest = forest_in keys read

      -- The updates of a move make the step of the forest.
      abbrev pub MoveIsMade : Result (Option (List Update)) Cause → Type 0
      MoveIsMade planned = (updates : List Update) (places : Places) → planned ≡ Ok (Some updates) → move_of from to forest ≡ Ok (Some places) → IsMoveIn keys from to updates places
          → AreOfStep keys nodes layout read updates (next_of Okay (in_subvolume from.sub (moved places.0 places.1) forest))

      -- A rename is made, or refused, as by the forest, where moves are made.
      pub rename_agrees : (planned : Result (Option (List Update)) Cause) → planned ≡ renamed_at keys from to
          → ((sub : Sub) → shared_sub keys from to ≡ Ok sub → (old : ℕ) (name : List ℕ) (new : ℕ) (link : Link)
          → check_move (old == new) name link.name (keys_mean.names_in keys sub.id new) ≡ refusal_of (step_to_move keys sub.id old name new link))
          → MoveIsMade planned → Agrees (AreOfRename keys nodes layout read) planned (renamed from to forest)
      rename_agrees planned is alike makes =
          agrees_at_end (AreOfRename keys nodes layout read) (λ places. next_of Okay (after_move from.sub places forest)) planned (move_of from to forest)
          (agrees_more (AreOfMove keys from to) Made planned (move_of from to forest) (subst (λ p. Agrees (AreOfMove keys from to) p (move_of from to forest)) (sym is) (moves_agree alike)) made)
        where
          Made : Option (List Update) → Option Places → Type 0
          Made updates places = AreOfRename keys nodes layout read updates (next_of Okay (after_move from.sub places forest))

          made : (updates : Option (List Update)) (places : Option Places) → planned ≡ Ok updates → move_of from to forest ≡ Ok places → AreOfMove keys from to updates places → Made updates places
          made (Some updates) (Some places) planned_is moves_so move = makes updates places planned_is moves_so move
          made None None planned_is moves_so move = record { reply = refl; stays = refl }
          made (Some updates) None planned_is moves_so move = absurd move
          made None (Some places) planned_is moves_so move = absurd move
