-- Live leaves are the ids of subvolumes, so what is checked of live leaves is that what each subvolume shows is good.
use Rattle.std.proofs.Common.{◌≡◌, ℕ, ◌+◌, Bool, true, false, cond, None, Some, List, [], ◌∷◌, refl, ap, ◌∙◌, subst, arith, inl, inr}
use Rattle.std.specs.Prelude.{◌==◌, Result, Ok, Err, All, count_by}
use Rattle.std.specs.List.{slice_index_or}
use Rattle.std.proofs.lemmas.Bool.{eqb-true}
use Rattle.std.proofs.lemmas.List.Elements.{All-weaker}
use Rattle.std.proofs.lemmas.List.Sums.{sum_by-cons}
use Rattle.key_meaning.specs.Blocks.{block_in}
use Rattle.key_meaning.specs.Checks.{IsLiveLeaf, IsNameJoined, IsRooted, IsSound, IsSpaceCounted, names_to}
use Rattle.key_meaning.specs.Forest.{Read, all_subs, directories_in, files_in, inode_in, links_in}
use Rattle.key_meaning.specs.SoundLaws.{IsIn, all_in}
use Rattle.key_meaning.specs.Tidy.{IsTidy}
use Rattle.key_steps.specs.Good.{IsLinkJoined}
use Rattle.key_steps.specs.Kept.{DoIdsMatch, IsKept, IsLeafGood}
use Rattle.key_steps.specs.Shown.{shown_in}
use Rattle.plain_forest.specs.Forest.{Names, Tree}
use Rattle.plain_forest.specs.Steps.{◌>>=◌, step, walk}
use Rattle.plain_forest.specs.declared.operation.Cause.{Cause}
use Rattle.vol_types.specs.KeyMaps.{IsKeyMap, KeyMap}
use Rattle.vol_types.specs.declared.layout.Layout.{Layout}
use Rattle.vol_types.specs.declared.pointers.Place.{Place}
use Rattle.vol_types.specs.declared.values.Link.{Link}
use Rattle.vol_types.specs.declared.values.Sub.{Sub}

module _ (locked also : Bool) (root : ℕ) (files others : List (ℕ × List ℕ)) (directories : List (ℕ × Names)) where
  abbrev one : Tree
  one = record { locked = locked; root = root; files = files; directories = directories }

  abbrev other : Tree
  other = record { locked = also; root = root; files = others; directories = directories }

  -- names lead where they led
  walk_same : (names : List (List ℕ)) (number : ℕ) → walk other names number ≡ walk one names number
  walk_same [] number = refl
  walk_same (name ∷ names) number = by (step one number name) (walk_same names)
    where
      by : (next : Result ℕ Cause) → ((n : ℕ) → walk other names n ≡ walk one names n) → (next >>= walk other names) ≡ (next >>= walk one names)
      by (Ok n) same = same n
      by (Err cause) same = refl

  -- Whether directories are rooted hangs on nothing else.
  pub rooted_same : IsRooted one → IsRooted other
  rooted_same was = record {
    root = was.root;
    named = was.named;
    below = λ number is. let path = was.below number is in record { names = path.names; leads = walk_same path.names root ∙ path.leads };
  }

-- Where a test counts one, what holds where a member passes it holds.
some_passes : {X : Type 0} (test : X → Bool) (xs : List X) → count_by test xs ≡ 1 → (Q : Type 0) → ((x : X) → IsIn x xs → test x ≡ true → Q) → Q
some_passes test [] one Q each = absurd (omega (arith, one))
some_passes {X} test (x ∷ xs) one Q each = by (test x) refl (λ fewer. some_passes test xs fewer Q (λ y is passes. each y (inr is) passes))
  where
    whole : count_by test (x ∷ xs) ≡ cond {A = ℕ} (test x) 1 0 + count_by test xs
    whole = sum_by-cons (λ y. cond {A = ℕ} (test y) 1 0) x xs

    by : (b : Bool) → test x ≡ b → (count_by test xs ≡ 1 → Q) → Q
    by true passes later = each x (inl refl) passes
    by false fails later = let none : cond {A = ℕ} (test x) 1 0 ≡ 0 = ap (λ b. cond {A = ℕ} b 1 0) fails in later (omega (arith, whole, one, none))

module _ (keys : KeyMap) where
  -- what each subvolume's id has, each live leaf has
  each_leaf : (P : ℕ → Type 0) → DoIdsMatch keys → ((sub : Sub) → IsIn sub (all_subs keys) → P sub.id) → (id : ℕ) → IsLiveLeaf keys id → P id
  each_leaf P ids each id leaf = some_passes (λ (sub : Sub). sub.id == id) (all_subs keys) (ids.leaves id leaf) (P id) (λ (sub : Sub) is same. subst P (eqb-true sub.id id same) (each sub is))

  module _ (nodes : List Place) (layout : Layout) where
    -- Sound and tidy keys are kept, and each subvolume shows what is good.
    pub sound_is_kept : IsKeyMap keys → IsSound keys nodes layout → IsTidy keys → IsKept keys nodes layout × IsSpaceCounted keys × All (IsLeafGood keys) (all_subs keys)
    sound_is_kept is sound tidy = (kept, sound.space, λ k d lt. good k d lt)
      where
        kept : IsKept keys nodes layout
        kept = record {
          is_map = is;
          trees = sound.trees;
          ids = record { subvolumes = λ k d lt. (sound.leaves.subvolumes k d lt).leaf; leaves = sound.leaves.leaves };
          extents = sound.extents;
          blocks = sound.blocks;
          drawn = tidy.drawn;
          named = tidy.named;
          below = tidy.below;
          gone = tidy.gone;
          owned = tidy.owned;
        }

        nothing : Read
        nothing places digest = None

        good : All (IsLeafGood keys) (all_subs keys)
        good k d lt =
            let sub = slice_index_or (all_subs keys) k d in
            let is_sub = sound.leaves.subvolumes k d lt in
            record {
              top = is_sub.root;
              names = λ directory slot. All-weaker (IsNameJoined keys sub.id directory slot) (IsLinkJoined (shown_in keys sub.id) directory slot)
                  (λ (link : Link) (joined : IsNameJoined keys sub.id directory slot link). record { under_slot = joined.under_slot; in_directory = joined.in_directory; leads_to = joined.leads_to })
                  (links_in keys sub.id directory slot) (sound.names.each sub.id directory slot is_sub.leaf);
              links = λ number inode at file. sound.links.each sub.id number inode is_sub.leaf at file;
              rooted = rooted_same sub.read_only false sub.root (files_in keys nothing sub.id) [] (directories_in keys sub.id) (sound.directories.each nothing k d lt);
              ends = λ number block inode at behind. tidy.ends.each sub.id number block inode is_sub.leaf at behind;
            }

    -- Kept keys are sound and tidy where space is counted and each subvolume shows what is good.
    pub kept_is_sound : IsKept keys nodes layout → IsSpaceCounted keys → All (IsLeafGood keys) (all_subs keys) → IsSound keys nodes layout × IsTidy keys
    kept_is_sound kept space good = (sound, tidy)
      where
        good_one : (sub : Sub) → IsIn sub (all_subs keys) → IsLeafGood keys sub
        good_one sub is = all_in (IsLeafGood keys) sub (all_subs keys) good is

        names_joined : (directory slot : ℕ) (sub : Sub) → IsIn sub (all_subs keys) → All (IsNameJoined keys sub.id directory slot) (links_in keys sub.id directory slot)
        names_joined directory slot sub is = All-weaker (IsLinkJoined (shown_in keys sub.id) directory slot) (IsNameJoined keys sub.id directory slot)
            (λ (link : Link) (joined : IsLinkJoined (shown_in keys sub.id) directory slot link). record { under_slot = joined.under_slot; in_directory = joined.in_directory; leads_to = joined.leads_to })
            (links_in keys sub.id directory slot) ((good_one sub is).names directory slot)

        sound : IsSound keys nodes layout
        sound = record {
          trees = kept.trees;
          leaves = record { subvolumes = λ k d lt. record { leaf = kept.ids.subvolumes k d lt; root = (good k d lt).top }; leaves = kept.ids.leaves };
          extents = kept.extents;
          names = record { each = λ id directory slot leaf. each_leaf (λ a. All (IsNameJoined keys a directory slot) (links_in keys a directory slot)) kept.ids (names_joined directory slot) id leaf };
          links = record {
            each = λ id number inode leaf at file. each_leaf (λ a. inode_in keys a number ≡ Some inode → inode.links ≡ names_to keys a number) kept.ids (λ (sub : Sub) is found. (good_one sub is).links number inode found file) id leaf at;
          };
          directories = record {
            each = λ read k d lt. let sub = slice_index_or (all_subs keys) k d in rooted_same false sub.read_only sub.root [] (files_in keys read sub.id) (directories_in keys sub.id) (good k d lt).rooted;
          };
          blocks = kept.blocks;
          space = space;
        }

        tidy : IsTidy keys
        tidy = record {
          drawn = kept.drawn;
          named = kept.named;
          below = kept.below;
          ends = record {
            each = λ id number block inode leaf at behind. each_leaf (λ a. inode_in keys a number ≡ Some inode → block_in keys a number block ≡ None) kept.ids (λ (sub : Sub) is found. (good_one sub is).ends number block inode found behind) id leaf at;
          };
          gone = kept.gone;
          owned = kept.owned;
        }
