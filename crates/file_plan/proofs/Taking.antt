-- What it is that an id takes no blocks, and updates of nothing.
use Rattle.std.proofs.Common.{◌≡◌, ℕ, ◌-◌, ◌<◌, ◌≤◌, Bool, false, cond, Option, [], refl, sym, ap, ◌∙◌, arith}
use Rattle.std.specs.Prelude.{◌&&◌, nat_le, nat_lt}
use Rattle.std.specs.List.Sorted.{IsStrictlySortedBy}
use Rattle.std.proofs.lemmas.Bool.Decides.{nat_tests}
use Rattle.std.proofs.lemmas.List.Elements.{All-nil}
use Rattle.vol_types.specs.KeyMaps.{KeyMap}
use Rattle.vol_types.specs.declared.keys.Update.{Update}
use Rattle.vol_types.specs.declared.positions.Btree.TheVariants.{Extents}
use Rattle.key_meaning.specs.Blocks.{Block}
use Rattle.key_meaning.specs.ChangeLaws.{changes_nothing}
use Rattle.key_meaning.specs.Checks.{IsCoveredOnce}
use Rattle.extent_ops.specs.Content.{AreOfContent, TakesBlocks, own_block}

-- Nothing changes, and no block is taken.
pub nothing_taken : (keys : KeyMap) (file id : ℕ) (is_cut : ℕ → Bool) (given : ℕ → Option (Option Block)) → ((block : ℕ) → is_cut block ≡ false) → IsCoveredOnce keys file id → TakesBlocks keys keys file id is_cut given
nothing_taken keys file id is_cut given none once = record {
  here = λ block. ap (λ b. cond b (given block) (own_block keys file block id)) (sym (none block));
  once = once;
  others = λ other block another apart. refl;
  btrees = λ btree apart. refl;
  only = changes_nothing keys id;
  files = λ another. record { inodes = λ number. refl; names = λ directory name. refl; blocks = λ other block apart. refl };
}

-- Where no block is taken, it doesn't matter what is said to be given.
pub none_taken : (old new : KeyMap) (file id : ℕ) (is_cut other_cut : ℕ → Bool) (given other_given : ℕ → Option (Option Block)) → ((block : ℕ) → is_cut block ≡ false) → ((block : ℕ) → other_cut block ≡ false)
    → TakesBlocks old new file id is_cut given → TakesBlocks old new file id other_cut other_given
none_taken old new file id is_cut other_cut given other_given none no_other takes = record {
  here = λ block. takes.here block ∙ ap (λ b. cond b (given block) (own_block old file block id)) (none block) ∙ ap (λ b. cond b (other_given block) (own_block old file block id)) (sym (no_other block));
  once = takes.once;
  others = takes.others;
  btrees = takes.btrees;
  only = takes.only;
  files = takes.files;
}

-- No updates are of content.
pub no_updates : (id : ℕ) → AreOfContent id []
unfolding IsStrictlySortedBy
no_updates id = record { each = All-nil (λ (update : Update). (update.btree ≡ Extents) × (update.level ≡ 0) × (update.pos.snapshot ≡ id)); rise = tt }

-- Blocks up to the one before an end are those below the end.
pub same_range : (first end block : ℕ) → 0 < end → (nat_le first block && nat_le block (end - 1)) ≡ (nat_le first block && nat_lt block end)
same_range first end block some = grind (arith, nat_tests)

-- There are none from an end on.
pub empty_range : (first end block : ℕ) → end ≤ first → (nat_le first block && nat_lt block end) ≡ false
empty_range first end block le = grind (arith, nat_tests)
