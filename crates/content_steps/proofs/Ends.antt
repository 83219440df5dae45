-- What shows stays good where the blocks or the size of a file change, and no block shows behind the file's end then.
use Rattle.std.proofs.Common.{◌≡◌, ℕ, ◌+◌, ◌-◌, ◌*◌, ◌<◌, ◌≤◌, Bool, true, false, cond, Option, Some, None, List, [], ◌∷◌, refl, sym, ap, ◌∙◌, subst, arith}
use Rattle.std.specs.Prelude.{◌==◌, ◌&&◌, All, nat_le, nat_lt, option_map, unwrap_or}
use Rattle.std.specs.List.{slice_index_or}
use Rattle.std.specs.Option.{option_or}
use Rattle.std.proofs.lemmas.Bool.{eqb-true, ltb-true}
use Rattle.std.proofs.lemmas.List.Elements.{All-head, All-tail}
use Rattle.std.proofs.lemmas.Option.{same_Some}
use Rattle.content_steps.specs.Shown.{DoBlocksEnd, EndsWithin, with_blocks}
use Rattle.extent_ops.specs.Content.{given_by, hidden_if, value_gives}
use Rattle.key_meaning.specs.Blocks.{Block, blocks_of, shown_of}
use Rattle.key_meaning.specs.Checks.{count_names}
use Rattle.key_steps.specs.Good.{IsGoodShown, IsLinkJoined}
use Rattle.key_steps.specs.Shown.{Shown, kind_of, with_inode}
use Rattle.plain_forest.specs.Forest.{Names}
use Rattle.vol_types.specs.Limits.{block_size}
use Rattle.vol_types.specs.declared.keys.Key.{Key}
use Rattle.vol_types.specs.declared.values.FileKind.TheVariants.{File}
use Rattle.vol_types.specs.declared.values.Inode.{Inode}
use Rattle.vol_types.specs.declared.values.Link.{Link}
use Rattle.vol_types.specs.declared.values.Value.{Value}

-- Blocks that are put below the end of their file leave what shows good,
pub put_stays_good : (root : ℕ) (shown : Shown) (directories : List (ℕ × Names)) (file : ℕ) (given : ℕ → Option (Option Block)) → IsGoodShown root shown directories → DoBlocksEnd shown file given → IsGoodShown root (with_blocks file given shown) directories
put_stays_good root shown directories file given good end = record {
  top = good.top;
  names = λ directory slot k d lt. joined_still directory slot (slice_index_or (shown.links directory slot) k d) (good.names directory slot k d lt);
  links = good.links;
  rooted = good.rooted;
  ends = λ number block inode is behind. by number block inode is behind (file == number) refl;
}
  where
    joined_still : (directory slot : ℕ) (link : Link) → IsLinkJoined shown directory slot link → IsLinkJoined (with_blocks file given shown) directory slot link
    joined_still directory slot link was = record { under_slot = was.under_slot; in_directory = was.in_directory; leads_to = was.leads_to }

    by : (number block : ℕ) (inode : Inode) → shown.inodes number ≡ Some inode → inode.size ≤ block * block_size → (b : Bool) → (file == number) ≡ b
        → cond b (unwrap_or (given block) (shown.blocks number block)) (shown.blocks number block) ≡ None
    by number block inode is behind true same = ap (unwrap_or (given block)) (good.ends number block inode is behind) ∙ end.each block inode (ap shown.inodes (eqb-true file number same) ∙ is) behind
    by number block inode is behind false apart = good.ends number block inode is behind

-- as those of extents that end within it,
pub extents_stay_good : (root : ℕ) (shown : Shown) (directories : List (ℕ × Names)) (file : ℕ) (old : Inode) (extents : List Key) → IsGoodShown root shown directories → shown.inodes file ≡ Some old → All (EndsWithin old.size) extents → IsGoodShown root (with_blocks file (given_by extents) shown) directories
extents_stay_good root shown directories file old extents good is within = put_stays_good root shown directories file (given_by extents) good (record {
  each = λ block inode at behind. ap (λ o. unwrap_or o None) (none block extents within (subst (λ (i : Inode). i.size ≤ block * block_size) (sym (same_Some old inode (sym is ∙ at))) behind));
})
  where
    beyond : (end block blocks : ℕ) → (end - 1) * block_size < old.size → old.size ≤ block * block_size → (nat_lt block end && nat_le end (block + blocks)) ≡ false
    beyond end block blocks low high = by (nat_lt block end) refl
      where
        by : (b : Bool) → nat_lt block end ≡ b → (nat_lt block end && nat_le end (block + blocks)) ≡ false
        by false is = ap (λ b. b && nat_le end (block + blocks)) is
        by true is = let lt : block < end = ltb-true block end is in absurd (omega (arith, lt, low, high))

    one : (end : ℕ) (value : Option Value) (block : ℕ) → (end - 1) * block_size < old.size → old.size ≤ block * block_size → value_gives end value block ≡ None
    one end None block low high = refl
    one end (Some value) block low high = ap (λ b. cond b (Some (shown_of block (record { inode = 0; offset = end; snapshot = 0 }, value))) None) (beyond end block (blocks_of value) low high)

    none : (block : ℕ) (keys : List Key) → All (EndsWithin old.size) keys → old.size ≤ block * block_size → given_by keys block ≡ None
    none block [] within high = refl
    none block (key ∷ keys) within high = λ i. option_or (one key.pos.offset key.value block (All-head (EndsWithin old.size) key keys within) high i) (none block keys (All-tail (EndsWithin old.size) key keys within) high i)

-- and so do blocks that are cut,
pub cut_stays_good : (root : ℕ) (shown : Shown) (directories : List (ℕ × Names)) (file : ℕ) (is_cut : ℕ → Bool) → IsGoodShown root shown directories → IsGoodShown root (with_blocks file (λ block. hidden_if (is_cut block)) shown) directories
cut_stays_good root shown directories file is_cut good = put_stays_good root shown directories file (λ block. hidden_if (is_cut block)) good (record { each = λ block inode is behind. none (is_cut block) })
  where
    none : (b : Bool) → unwrap_or (hidden_if b) None ≡ None
    none true = refl
    none false = refl

-- and a size at or behind which no block of the file shows, whichever blocks it has then.
module _ (root : ℕ) (shown : Shown) (directories : List (ℕ × Names)) (file size : ℕ) (old : Inode) (blocks : ℕ → ℕ → Option Block) (good : IsGoodShown root shown directories) (is : shown.inodes file ≡ Some old) (of_file : old.kind ≡ File)
    (end : (block : ℕ) → size ≤ block * block_size → blocks file block ≡ None) (others : (number : ℕ) → (file == number) ≡ false → (block : ℕ) → blocks number block ≡ shown.blocks number block) where
  abbrev sized : Inode
  sized = record old { size = size }

  abbrev after : Shown
  after = with_inode file (Some sized) (record { inodes = shown.inodes; links = shown.links; blocks = blocks })

  -- Each number stands for what it stood for,
  pub kinds : (number : ℕ) → kind_of after number ≡ kind_of shown number
  kinds number = by (file == number) refl
    where
      by : (b : Bool) → (file == number) ≡ b → option_map (λ (inode : Inode). inode.kind) (cond b (Some sized) (shown.inodes number)) ≡ kind_of shown number
      by true same = sym (ap (option_map (λ (inode : Inode). inode.kind)) (ap shown.inodes (sym (eqb-true file number same)) ∙ is))
      by false apart = refl

  joined : (directory slot : ℕ) (link : Link) → IsLinkJoined shown directory slot link → IsLinkJoined after directory slot link
  joined directory slot link was = record { under_slot = was.under_slot; in_directory = kinds directory ∙ was.in_directory; leads_to = kinds link.number ∙ was.leads_to }

  -- and what shows is good.
  pub content_stays_good : IsGoodShown root after directories
  content_stays_good = record {
    top = kinds root ∙ good.top;
    names = λ directory slot k d lt. joined directory slot (slice_index_or (shown.links directory slot) k d) (good.names directory slot k d lt);
    links = λ number inode shows kind. counted number inode kind (file == number) refl shows;
    rooted = good.rooted;
    ends = λ number block inode shows behind. ended number block inode behind (file == number) refl shows;
  }
    where
      counted : (number : ℕ) (inode : Inode) → inode.kind ≡ File → (b : Bool) → (file == number) ≡ b → cond b (Some sized) (shown.inodes number) ≡ Some inode → inode.links ≡ count_names directories number
      counted number inode kind true same shows =
          sym (ap (λ (i : Inode). i.links) (same_Some sized inode shows)) ∙ good.links number old (ap shown.inodes (sym (eqb-true file number same)) ∙ is) of_file
      counted number inode kind false apart shows = good.links number inode shows kind

      ended : (number block : ℕ) (inode : Inode) → inode.size ≤ block * block_size → (b : Bool) → (file == number) ≡ b → cond b (Some sized) (shown.inodes number) ≡ Some inode → blocks number block ≡ None
      ended number block inode behind true same shows =
          ap (λ n. blocks n block) (sym (eqb-true file number same)) ∙ end block (subst (λ (i : Inode). i.size ≤ block * block_size) (sym (same_Some sized inode shows)) behind)
      ended number block inode behind false apart shows = others number apart block ∙ good.ends number block inode shows behind

-- So is it where the size alone changes,
pub size_stays_good : (root : ℕ) (shown : Shown) (directories : List (ℕ × Names)) (file size : ℕ) (old : Inode) → IsGoodShown root shown directories → shown.inodes file ≡ Some old → old.kind ≡ File
    → ((block : ℕ) → size ≤ block * block_size → shown.blocks file block ≡ None) → IsGoodShown root (with_inode file (Some (record old { size = size })) shown) directories
size_stays_good root shown directories file size old good is of_file end = content_stays_good root shown directories file size old shown.blocks good is of_file end (λ number apart block. refl)

-- as to a greater one.
pub greater_stays_good : (root : ℕ) (shown : Shown) (directories : List (ℕ × Names)) (file size : ℕ) (old : Inode) → IsGoodShown root shown directories → shown.inodes file ≡ Some old → old.kind ≡ File
    → old.size ≤ size → IsGoodShown root (with_inode file (Some (record old { size = size })) shown) directories
greater_stays_good root shown directories file size old good is of_file more = size_stays_good root shown directories file size old good is of_file (λ block behind. good.ends file block old is (omega (arith, more, behind)))
