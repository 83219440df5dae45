-- A change of a file's content as a chain of steps: its blocks, its inode, and the keys on space.
use Rattle.std.proofs.Common.{◌≡◌, ℕ, ◌<◌, Bool, true, false, cond, Option, Some, List, [], ◌∷◌, ◌++◌, refl, sym, ap, ◌∙◌, subst, arith}
use Rattle.std.specs.Prelude.{◌==◌, All}
use Rattle.std.proofs.lemmas.Bool.{eqb-true}
use Rattle.std.proofs.lemmas.List.Elements.{All-append, All-cons, All-nil}
use Rattle.content_steps.proofs.Apart.{of_no_space, seen_of_no_space}
use Rattle.content_steps.proofs.Following.{change_then, steps_are}
use Rattle.content_steps.specs.Shown.{with_blocks}
use Rattle.content_steps.specs.Steps.{ChangesContent, StepsButSpace}
use Rattle.key_meaning.specs.Blocks.{Block}
use Rattle.key_meaning.specs.Forest.{Read, counter_in}
use Rattle.key_steps.specs.Shown.{Shown, shown_in, with_inode}
use Rattle.key_steps.specs.Steps.{MayChange, Steps, inode_value}
use Rattle.key_triggers.specs.Follows.{IsNoSpaceUpdate}
use Rattle.key_view.specs.Changes.{own_update}
use Rattle.vol_types.specs.KeyMapLaws.{with_updates-append}
use Rattle.vol_types.specs.KeyMaps.{KeyMap, with_updates}
use Rattle.vol_types.specs.Ranges.{IsInode}
use Rattle.vol_types.specs.Standing.{IsUpdate}
use Rattle.vol_types.specs.declared.keys.Update.{Update}
use Rattle.vol_types.specs.declared.layout.Layout.{Layout}
use Rattle.vol_types.specs.declared.pointers.Place.{Place}
use Rattle.vol_types.specs.declared.positions.Btree.TheVariants.{Alloc, Backptrs, Inodes}
use Rattle.vol_types.specs.declared.values.Inode.{Inode}
use Rattle.vol_types.specs.declared.values.Sub.{Sub}

-- An inode that is what shows already leaves what shows.
pub same_inode : (shown : Shown) (number : ℕ) (inode : Inode) → shown.inodes number ≡ Some inode → with_inode number (Some inode) shown ≡ shown
same_inode shown number inode is = λ i. record { inodes = λ other. by other (number == other) refl i; links = shown.links; blocks = shown.blocks }
  where
    by : (other : ℕ) (b : Bool) → (number == other) ≡ b → cond (number == other) (Some inode) (shown.inodes other) ≡ shown.inodes other
    by other true same = ap (λ b. cond b (Some inode) (shown.inodes other)) same ∙ sym is ∙ ap shown.inodes (eqb-true number other same)
    by other false apart = ap (λ b. cond b (Some inode) (shown.inodes other)) apart

module _ (keys : KeyMap) (updates : List Update) (nodes : List Place) (layout : Layout) (read : Read) (sub : Sub) (file size : ℕ) (old : Inode) (given : ℕ → Option (Option Block)) (change : List ℕ → List ℕ) (fits : IsInode (record old { size = size }))
    (changes : ChangesContent keys updates nodes layout read sub file size old given change) where
  abbrev middle : KeyMap
  middle = with_updates updates keys

  abbrev sized : Inode
  sized = record old { size = size }

  abbrev inode_updates : List Update
  inode_updates = own_update Inodes 0 file sub.id (Some (inode_value sized)) ∷ []

  -- the inode shows still after the blocks were taken, so that it may change
  pub may_change : MayChange middle sub.id file (Some sized)
  may_change = record {
    old = old;
    shows = ap (λ (shown : Shown). shown.inodes file) changes.steps.shows ∙ changes.shows;
    stays = refl;
    goes = λ none. absurd cc;
  }

  -- The inode's update behind them is a step but for the keys on space.
  pub sized_then : Steps middle (with_updates inode_updates middle) nodes layout sub.id (with_inode file (Some sized) (shown_in middle sub.id)) (counter_in middle)
      → StepsButSpace keys (with_updates (updates ++ inode_updates) keys) nodes layout sub.id (with_inode file (Some sized) (with_blocks file given (shown_in keys sub.id))) (counter_in keys)
  sized_then second = subst (λ (new : KeyMap). StepsButSpace keys new nodes layout sub.id (with_inode file (Some sized) (with_blocks file given (shown_in keys sub.id))) (counter_in keys))
      (sym (with_updates-append updates inode_updates keys))
      (change_then keys middle (with_updates inode_updates middle) nodes layout sub.id (with_blocks file given (shown_in keys sub.id)) (counter_in keys) (with_inode file (Some sized)) changes.steps
      (steps_are middle (with_updates inode_updates middle) nodes layout sub.id (with_inode file (Some sized) (shown_in middle sub.id)) (counter_in middle) second))

  -- All of them may be made,
  pub all_fit : All IsUpdate (updates ++ inode_updates)
  all_fit = All-append IsUpdate updates inode_updates changes.fits
      (All-cons IsUpdate (own_update Inodes 0 file sub.id (Some (inode_value sized))) [] (record { stands = record { in_leaf = λ leaf. refl; above = λ (up : 0 < 0). absurd (omega (arith, up)) }; in_range = fits }) (All-nil IsUpdate))

  -- and are of no key on space.
  pub all_plain : All IsNoSpaceUpdate (updates ++ inode_updates)
  all_plain = All-append IsNoSpaceUpdate updates inode_updates (of_no_space sub.id updates changes.own)
      (seen_of_no_space keys Inodes 0 file sub.id (Some (inode_value sized)) (λ (is : Inodes ≡ Alloc). cc) (λ (is : Inodes ≡ Backptrs). cc))
