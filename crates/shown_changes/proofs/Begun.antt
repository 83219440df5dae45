-- Where names and numbers stand in the tree of a subvolume, by what shows in its id.
use Rattle.std.proofs.Common.{◌≡◌, ℕ, cond, Option, Some, None, ap, ◌∙◌}
use Rattle.std.specs.Prelude.{option_and_then, option_map}
use Rattle.forest_ops.specs.Trees.{Place}
use Rattle.key_meaning.specs.Forest.{Read, content_of, inode_in, is_directory, kind_in, link_named, links_in, names_in, size_of, tree_of}
use Rattle.key_meaning.specs.ForestLaws.{directory_at, file_at, name_at}
use Rattle.key_meaning.specs.NumberLaws.{no_name_to_unused, unused_shows_nowhere}
use Rattle.key_meaning.specs.Numbers.{IsUnused}
use Rattle.plain_forest.specs.Forest.{Names}
use Rattle.std.specs.Ordering.{nat_cmp}
use Rattle.tree_changes.specs.Trees.{IsFreeName, IsNameAt, IsNewNumber}
use Rattle.vol_digest.specs.Digests.{slot_of}
use Rattle.vol_types.specs.KeyMaps.{KeyMap}
use Rattle.vol_types.specs.Maps.{value_at}
use Rattle.vol_types.specs.declared.values.FileKind.{FileKind}
use Rattle.vol_types.specs.declared.values.FileKind.TheVariants.{Directory}
use Rattle.vol_types.specs.declared.values.Inode.{Inode}
use Rattle.vol_types.specs.declared.values.Link.{Link}
use Rattle.vol_types.specs.declared.values.Sub.{Sub}

module _ (keys : KeyMap) (read : Read) (sub : Sub) where
  module _ (place : Place) (is : kind_in keys sub.id place.directory ≡ Some Directory) where
    -- the names of the place's directory
    held : value_at nat_cmp place.directory (tree_of keys read sub).directories ≡ Some (names_in keys sub.id place.directory)
    held = directory_at keys sub.id place.directory ∙ ap (λ (kind : Option FileKind). cond {A = Option Names} (is_directory kind) (Some (names_in keys sub.id place.directory)) None) is

    -- A name that doesn't show is free,
    pub free_where : link_named place.name (links_in keys sub.id place.directory (slot_of place.name)) ≡ None → IsFreeName place (tree_of keys read sub)
    free_where none = record { names = names_in keys sub.id place.directory; held = held; free = name_at keys sub.id place.directory place.name ∙ ap (option_map (λ (link : Link). link.number)) none }

    -- and one that shows stands there.
    pub there_where : (link : Link) → link_named place.name (links_in keys sub.id place.directory (slot_of place.name)) ≡ Some link → link.number ≡ place.number → IsNameAt place (tree_of keys read sub)
    there_where link some same = record { names = names_in keys sub.id place.directory; held = held; leads = name_at keys sub.id place.directory place.name ∙ ap (option_map (λ (l : Link). l.number)) some ∙ ap Some same }

  -- A number that no key names is new.
  pub unused_is_new : (number : ℕ) → IsUnused keys number → IsNewNumber (tree_of keys read sub) number
  unused_is_new number unused = record {
    no_file = file_at keys sub.id read number ∙ ap (λ (inode : Option Inode). option_map (content_of keys read sub.id number) (option_and_then size_of inode)) nowhere;
    no_directory = directory_at keys sub.id number ∙ ap (λ (inode : Option Inode). cond {A = Option Names} (is_directory (option_map (λ (i : Inode). i.kind) inode)) (Some (names_in keys sub.id number)) None) nowhere;
    no_name = no_name_to_unused keys sub.id number unused;
  }
    where
      nowhere : inode_in keys sub.id number ≡ None
      nowhere = (unused_shows_nowhere keys number unused).inodes sub.id
