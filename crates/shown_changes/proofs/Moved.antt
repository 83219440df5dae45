-- A name at a new place and not at the old one: what shows then is good, and means the tree with it moved.
use Rattle.std.proofs.Common.{◌≡◌, ℕ, Option, Some, List, refl, sym, ap, ◌∙◌, subst}
use Rattle.std.specs.Prelude.{option_map}
use Rattle.std.specs.Ordering.{nat_cmp}
use Rattle.plain_forest.specs.Forest.{Names, Tree}
use Rattle.plain_forest.specs.Maps.{changed_at}
use Rattle.vol_digest.specs.Digests.{slot_of}
use Rattle.vol_types.specs.Maps.{put_at, with_value}
use Rattle.vol_types.specs.Ranges.{name_cmp}
use Rattle.vol_types.specs.declared.values.FileKind.{FileKind}
use Rattle.vol_types.specs.declared.values.Link.{Link}
use Rattle.vol_types.specs.declared.values.Sub.{Sub}
use Rattle.forest_ops.specs.Trees.{Place, moved}
use Rattle.key_meaning.specs.Checks.{count_names}
use Rattle.key_meaning.specs.Forest.{Read}
use Rattle.key_steps.specs.Good.{bare_tree}
use Rattle.key_steps.specs.Shown.{AreDirectoriesOf, Shown, kind_of, with_links}
use Rattle.shown_changes.proofs.Directories.{directories_named}
use Rattle.shown_changes.proofs.Formed.{formed, held_kind, move_bare}
use Rattle.shown_changes.proofs.Joined.{AreJoined, joined_added, joined_taken}
use Rattle.shown_changes.proofs.Laws.{TreeLaws}
use Rattle.key_steps.specs.Names.{AddsName, TakesName}
use Rattle.shown_changes.specs.Changes.{MeansGoodTree}
use Rattle.tree_changes.specs.Trees.{MayMove}

module _ (laws : TreeLaws) (read : Read) (sub : Sub) (shown : Shown) (tree : Tree) (old new : Place) (kind : FileKind) (more left : List Link) (was : MeansGoodTree read sub shown tree) (may : MayMove old new tree) (stood : kind_of shown old.number ≡ Some kind)
    (adds : AddsName (record { number = new.number; kind = kind; name = new.name }) (shown.links new.directory (slot_of new.name)) more) where
  -- with both names,
  abbrev both : Shown
  both = with_links new.directory (slot_of new.name) more shown

  abbrev with_both : List (ℕ × Names)
  with_both = changed_at nat_cmp new.directory (with_value name_cmp new.name new.number) tree.directories

  both_directories : AreDirectoriesOf both with_both
  both_directories =
      subst (λ (target : Option ℕ). AreDirectoriesOf both (changed_at nat_cmp new.directory (put_at name_cmp new.name target) tree.directories)) (ap (option_map (λ (l : Link). l.number)) adds.found)
      (directories_named shown new.directory new.name more tree.directories was.means.directories adds.others)

  both_joined : AreJoined both
  both_joined = joined_added shown new.directory (slot_of new.name) more (record { number = new.number; kind = kind; name = new.name }) adds
      (record {
        under_slot = refl;
        in_directory = held_kind shown tree.directories was.means.directories new.directory may.to.names may.to.held;
        leads_to = ap (kind_of shown) may.same ∙ stood;
      })
      was.good.names

  module _ (takes : TakesName old.name (both.links old.directory (slot_of old.name)) left) where
    -- and without the old one
    abbrev after : Shown
    after = with_links old.directory (slot_of old.name) left both

    after_directories : AreDirectoriesOf after (moved old new tree).directories
    after_directories =
        subst (λ (target : Option ℕ). AreDirectoriesOf after (changed_at nat_cmp old.directory (put_at name_cmp old.name target) with_both)) (ap (option_map (λ (l : Link). l.number)) takes.found)
        (directories_named both old.directory old.name left with_both both_directories takes.others)

    -- As many names lead to each number as before.
    same_counts : (number : ℕ) → count_names (moved old new tree).directories number ≡ count_names tree.directories number
    same_counts = laws.count_moved old new (bare_tree sub.root tree.directories) (formed read sub shown tree was) (move_bare read sub shown tree was old new may)

    -- A name moved.
    pub name_moved : MeansGoodTree read sub after (moved old new tree)
    name_moved = record {
      means = record {
        locked = was.means.locked;
        root = was.means.root;
        files = record { map = was.means.files.map; each = was.means.files.each };
        directories = after_directories;
      };
      good = record {
        top = was.good.top;
        names = joined_taken both old.directory (slot_of old.name) left old.name takes both_joined;
        links = λ number inode at file. was.good.links number inode at file ∙ sym (same_counts number);
        rooted = (laws.formed_moved old new (bare_tree sub.root tree.directories) (formed read sub shown tree was) (move_bare read sub shown tree was old new may)).rooted;
        ends = was.good.ends;
      };
    }
