-- A tree that is well formed is so after a name moved. The names that lead to the new directory don't pass the old name, since only
-- one list of names leads to its directory; names that passed it lead now by the new place, and all others as they led.
use Rattle.std.proofs.Common.{◌≡◌, ◌⊎◌, inl, inr, ℕ, Bool, true, false, Some, List, ◌∷◌, ◌++◌, refl, sym, ap, ◌∙◌, subst}
use Rattle.std.specs.Prelude.{IsSome, is_some}
use Rattle.std.specs.BTreeMap.{is_at}
use Rattle.std.specs.Ordering.{nat_cmp}
use Rattle.std.proofs.lemmas.Bool.{and_parts}
use Rattle.std.proofs.lemmas.Option.{none-some as none_some}
use Rattle.forest_ops.specs.Trees.{Place, moved, with_name}
use Rattle.key_meaning.specs.Checks.{IsAtPath, IsDirectoryOf}
use Rattle.plain_forest.specs.Forest.{Names, Tree}
use Rattle.vol_types.specs.Maps.{IsMap, value_at, with_value, without}
use Rattle.vol_types.specs.Ranges.{name_cmp}
use Rattle.tree_changes.specs.Trees.{IsWellFormed, MayMove}
use Rattle.tree_changes.proofs.Counting.{moved_counts, put, taken}
use Rattle.tree_changes.proofs.Formed.{kinds_kept, path_to, put_maps, put_rises, still_some, taken_maps, taken_rises, was_some}
use Rattle.tree_changes.proofs.Leading.{AreNamesMaps, is_name, leads, named, put_keeps, put_leads, same_directory, same_words, taken_keeps}
use Rattle.tree_changes.proofs.Unique.{one_way}
use Rattle.tree_changes.proofs.Ways.{Lead, Pass, lead_of, lead_then, leads_or_passes, walk_of}

module _ (old new : Place) (tree : Tree) (well : IsWellFormed tree) (may : MayMove old new tree) where
  abbrev after : List (ℕ × Names)
  after = taken old (with_name new tree)

  rises : IsMap nat_cmp (put new tree)
  rises = put_rises new tree well.directories

  maps : AreNamesMaps (put new tree)
  maps = put_maps new tree well.directories well.names

  old_leads : leads tree.directories old.directory old.name ≡ Some old.number
  old_leads = ap (λ o. named o old.name) may.from.held ∙ may.from.leads

  -- all names but the old one lead where they led
  keeps : (number : ℕ) (name : List ℕ) (end : ℕ) → leads tree.directories number name ≡ Some end → is_name old.directory old.name number name ≡ false → leads after number name ≡ Some end
  keeps number name end is apart =
      taken_keeps (put new tree) rises old.directory old.name maps number name end (put_keeps tree.directories well.directories new.directory new.name new.number may.to.names may.to.held may.to.free number name end is) apart

  -- the new name is another one, since it was free
  other_name : is_name old.directory old.name new.directory new.name ≡ false
  other_name = by (is_name old.directory old.name new.directory new.name) refl
    where
      by : (b : Bool) → is_name old.directory old.name new.directory new.name ≡ b → b ≡ false
      by false is = refl
      by true is =
          let parts = and_parts (is_at (nat_cmp old.directory) new.directory) (is_at (name_cmp old.name) new.name) is in
          let there : old.directory ≡ new.directory = same_directory old.directory new.directory parts.0 in
          let words : old.name ≡ new.name = same_words old.name new.name parts.1 in
          absurd (none_some old.number (sym (ap (λ o. named o new.name) may.to.held ∙ may.to.free) ∙ (λ i. leads tree.directories (sym there i) (sym words i)) ∙ old_leads))

  new_leads : leads after new.directory new.name ≡ Some new.number
  new_leads = taken_keeps (put new tree) rises old.directory old.name maps new.directory new.name new.number (put_leads tree.directories well.directories new.directory new.name new.number may.to.names may.to.held) other_name

  -- the names that lead to the new directory still do
  way_to_new : Lead after may.new_names tree.root new.directory
  way_to_new = by (leads_or_passes tree.directories after old.directory old.name old.number old_leads keeps may.new_names tree.root new.directory (lead_of tree may.new_names tree.root new.directory may.new_leads))
    where
      by : Lead after may.new_names tree.root new.directory ⊎ Pass tree.directories after old.directory old.name old.number may.new_names tree.root new.directory → Lead after may.new_names tree.root new.directory
      by (inl goes) = goes
      by (inr passes) =
          let same : passes.before ≡ may.old_names = one_way tree well passes.before may.old_names old.directory (ap is_some may.from.held) passes.comes (lead_of tree may.old_names tree.root old.directory may.old_leads) in
          absurd (may.apart passes.behind (passes.parts ∙ ap (λ (ns : List (List ℕ)). ns ++ old.name ∷ passes.behind) same))

  -- names lead to each directory
  below : (number : ℕ) → IsDirectoryOf tree number → IsAtPath (moved old new tree) number
  below number some = by (leads_or_passes tree.directories after old.directory old.name old.number old_leads keeps path.0 tree.root number path.1)
    where
      path : (names : List (List ℕ)) × Lead tree.directories names tree.root number
      path = path_to tree well number some

      by : Lead after path.0 tree.root number ⊎ Pass tree.directories after old.directory old.name old.number path.0 tree.root number → IsAtPath (moved old new tree) number
      by (inl goes) = record { names = path.0; leads = walk_of (moved old new tree) path.0 tree.root number goes }
      by (inr passes) =
          let further : Lead after (new.name ∷ passes.behind) new.directory number = (new.number, new_leads, subst (λ (n : ℕ). Lead after passes.behind n number) (sym may.same) passes.goes) in
          let whole : Lead after (may.new_names ++ new.name ∷ passes.behind) tree.root number = lead_then after may.new_names (new.name ∷ passes.behind) tree.root new.directory number way_to_new further in
          record { names = may.new_names ++ new.name ∷ passes.behind; leads = walk_of (moved old new tree) (may.new_names ++ new.name ∷ passes.behind) tree.root number whole }

  -- what is a directory was one
  was : (number : ℕ) → IsSome (value_at nat_cmp number after) → IsDirectoryOf tree number
  was number some = was_some new tree (with_value name_cmp new.name new.number) number (was_some old (with_name new tree) (without name_cmp old.name) number some)

  -- A name moved
  pub moved_formed : IsWellFormed (moved old new tree)
  moved_formed = record {
    files = well.files;
    directories = taken_rises old (with_name new tree) rises;
    names = taken_maps old (with_name new tree) rises maps;
    kinds = kinds_kept tree well after was;
    top = still_some old (with_name new tree) (without name_cmp old.name) tree.root (still_some new tree (with_value name_cmp new.name new.number) tree.root well.top);
    rooted = record {
      root = moved_counts old new tree well may tree.root ∙ well.rooted.root;
      named = λ number some other. moved_counts old new tree well may number ∙ well.rooted.named number (was number some) other;
      below = λ number some. below number (was number some);
    };
  }
