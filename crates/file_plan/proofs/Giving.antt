-- What keys give to blocks.
use Rattle.std.proofs.Common.{◌≡◌, ℕ, ◌+◌, ◌-◌, ◌<◌, ◌≤◌, true, false, cond, Option, Some, None, List, [], ◌∷◌, ◌++◌, length, map, get_or, refl, sym, ap, ◌∙◌, subst, arith}
use Rattle.std.specs.Prelude.{◌&&◌, nat_le, nat_lt, All, option_and_then}
use Rattle.std.specs.Option.{option_or}
use Rattle.std.proofs.lemmas.Bool.{lt-ltb, le-leb}
use Rattle.std.proofs.lemmas.Bool.Decides.{nat_tests}
use Rattle.std.proofs.Math.Seq.{append_snoc, get_or-append_seam}
use Rattle.std.proofs.lemmas.List.{get_or-map, length-append, length-map}
use Rattle.std.proofs.lemmas.List.Elements.{All-cons, All-head, All-nil, All-tail}
use Rattle.std.proofs.lemmas.Option.{none-some as none_some}
use Rattle.vol_digest.specs.Digests.{short_of}
use Rattle.vol_types.specs.declared.keys.Key.{Key}
use Rattle.vol_types.specs.declared.pointers.Pointer.{Pointer}
use Rattle.vol_types.specs.declared.positions.Pos.{Pos}
use Rattle.vol_types.specs.declared.values.Extent.{Extent}
use Rattle.vol_types.specs.declared.values.Value.{Value}
use Rattle.vol_types.specs.declared.values.Value.TheVariants as values
use Rattle.key_meaning.specs.Blocks.{Block, block_of, blocks_of, shown_of}
use Rattle.key_meaning.specs.CoverLaws.{pos_of}
use Rattle.key_meaning.specs.Forest.{Read}
use Rattle.extent_ops.specs.Content.{AreFresh, IsContent, given_by, value_gives}
use Rattle.file_plan.specs.BlockIo.{IsHeld, places_at}
use Rattle.file_plan.specs.Runs.{GiveBytes, IsRun, bytes_of, written_at}

-- The first keys that give something to a block count.
or_assoc : {X : Type 0} (a b c : Option X) → option_or a (option_or b c) ≡ option_or (option_or a b) c
or_assoc None b c = refl
or_assoc (Some x) b c = refl

pub given_by-append : (one other : List Key) (block : ℕ) → given_by (one ++ other) block ≡ option_or (given_by one block) (given_by other block)
given_by-append [] other block = refl
given_by-append (key ∷ keys) other block = ap (option_or (value_gives key.pos.offset key.value block)) (given_by-append keys other block)
    ∙ or_assoc (value_gives key.pos.offset key.value block) (given_by keys block) (given_by other block)

-- A value gives nothing to blocks outside of its range.
not_over : (end n block : ℕ) → block + n < end → (nat_lt block end && nat_le end (block + n)) ≡ false
not_over end n block lt = grind (arith, nat_tests)

behind : (end n block : ℕ) → end ≤ block → (nat_lt block end && nat_le end (block + n)) ≡ false
behind end n block le = grind (arith, nat_tests)

-- Fresh keys give nothing below their first block,
pub fresh_below : (file id from : ℕ) (keys : List Key) (block : ℕ) → AreFresh file id from keys → block < from → given_by keys block ≡ None
fresh_below file id from [] block are lt = refl
fresh_below file id from (key ∷ keys) block are lt =
    (λ i. option_or (value_gives key.pos.offset (are.0.is i) block) (fresh_below file id key.pos.offset keys block are.1 (omega (arith, are.0.behind, lt)) i))
    ∙ ap (λ b. option_or (cond b (Some (shown_of block (record { inode = 0; offset = key.pos.offset; snapshot = 0 }, are.0.value))) None) None)
    (not_over key.pos.offset (blocks_of are.0.value) block (omega (arith, are.0.behind, lt, are.0.some)))

-- and nothing behind all their ends.
pub given_behind : (keys : List Key) (block : ℕ) → All (λ (key : Key). key.pos.offset ≤ block) keys → given_by keys block ≡ None
given_behind [] block are = refl
given_behind (key ∷ keys) block are =
    (λ i. option_or (by key.value i) (given_behind keys block (All-tail (λ (key : Key). key.pos.offset ≤ block) key keys are) i))
  where
    by : (value : Option Value) → value_gives key.pos.offset value block ≡ None
    by None = refl
    by (Some value) = ap (λ b. cond b (Some (shown_of block (record { inode = 0; offset = key.pos.offset; snapshot = 0 }, value))) None)
        (behind key.pos.offset (blocks_of value) block (All-head (λ (key : Key). key.pos.offset ≤ block) key keys are))

-- The keys of a run are fresh,
pub run_fresh : (file id first end : ℕ) (keys : List Key) → IsRun file id first end keys → AreFresh file id first keys
run_fresh file id first end [] is = tt
run_fresh file id first end (key ∷ keys) is =
    let ends : key.pos.offset ≡ first + length is.0.extent.digests = ap (λ (p : Pos). p.offset) is.0.at in (
      record {
        value = values.Extent is.0.extent;
        is = is.0.is;
        at = is.0.at ∙ ap (λ o. pos_of file o id) (sym ends);
        some = omega (arith, is.0.blocks.0);
        behind = omega (arith, ends);
      },
      run_fresh file id key.pos.offset end keys is.1,
    )

-- A run's extents are in range.
pub run_content : (file id first end : ℕ) (keys : List Key) → IsRun file id first end keys → All (λ (key : Key). IsContent key.value) keys
run_content file id first end [] is = All-nil (λ (key : Key). IsContent key.value)
run_content file id first end (key ∷ keys) is =
    All-cons (λ (k : Key). IsContent k.value) key keys
    (subst IsContent (sym is.0.is) (record {
      stands = record { in_leaf = λ leaf. refl; above = λ above. absurd (omega (arith, above)) };
      in_range = record { blocks = is.0.blocks; copies = is.0.places.copies; each = is.0.places.each; rise = is.0.places.rise };
    }))
    (run_content file id key.pos.offset end keys is.1)

-- and end no later than the run.
pub run_within : (file id first end : ℕ) (keys : List Key) → IsRun file id first end keys → (first ≤ end) × All (λ (key : Key). key.pos.offset ≤ end) keys
run_within file id first end [] is = (omega (arith, is), λ k d lt. absurd (omega (arith, lt)))
run_within file id first end (key ∷ keys) is =
    let ends : key.pos.offset ≡ first + length is.0.extent.digests = ap (λ (p : Pos). p.offset) is.0.at in
    let rest = run_within file id key.pos.offset end keys is.1 in
    (omega (arith, ends, rest.0), All-cons (λ (k : Key). k.pos.offset ≤ end) key keys rest.0 rest.1)

-- Two runs, one behind the other.
pub run_then : (file id first middle end : ℕ) (keys : List Key) (key : Key) → IsRun file id first middle keys → IsRun file id middle end (key ∷ []) → IsRun file id first end (keys ++ key ∷ [])
run_then file id first middle end [] key one two = subst (λ m. IsRun file id m end (key ∷ [])) (sym one) two
run_then file id first middle end (k ∷ keys) key one two = (one.0, run_then file id k.pos.offset middle end keys key one.1 two)

-- What an extent gives to one of its blocks.
pub extent_gives : (extent : Extent) (end block index : ℕ) → length extent.digests ≤ end → block + length extent.digests ≡ end + index → index < length extent.digests → value_gives end (Some (values.Extent extent)) block ≡ Some (Some (block_of extent index))
extent_gives extent end block index room at lt =
    ap (λ b. cond b (Some (Some (block_of extent (block - (end - length extent.digests))))) None) (over end block (length extent.digests) index at lt)
    ∙ ap (λ n. Some (Some (block_of extent n))) (let same : block - (end - length extent.digests) ≡ index = omega (arith, room, at, lt) in same)
  where
    over : (end block n index : ℕ) → block + n ≡ end + index → index < n → (nat_lt block end && nat_le end (block + n)) ≡ true
    over end block n index at lt = λ i. lt-ltb block end (omega (arith, at, lt)) i && le-leb end (block + n) (omega (arith, at)) i

-- What keys give stays where others follow them,
pub gives_weaker : (read : Read) (one other : List Key) (at : ℕ) (blocks : List (List ℕ)) → GiveBytes read one at blocks → GiveBytes read (one ++ other) at blocks
gives_weaker read one other at [] gives = tt
gives_weaker read one other at (bytes ∷ blocks) gives = (ap (option_and_then (bytes_of read)) (given_by-append one other at) ∙ by (given_by one at) gives.0, gives_weaker read one other (at + 1) blocks gives.1)
  where
    by : (given : Option (Option Block)) → option_and_then (bytes_of read) given ≡ Some bytes → option_and_then (bytes_of read) (option_or given (given_by other at)) ≡ Some bytes
    by None is = absurd (none_some bytes is)
    by (Some shown) is = is

-- and where the keys before them give nothing from there on.
pub gives_behind : (read : Read) (one other : List Key) (at : ℕ) (blocks : List (List ℕ)) → ((block : ℕ) → at ≤ block → given_by one block ≡ None) → GiveBytes read other at blocks → GiveBytes read (one ++ other) at blocks
gives_behind read one other at [] none gives = tt
gives_behind read one other at (bytes ∷ blocks) none gives = (
  ap (option_and_then (bytes_of read)) (given_by-append one other at ∙ ap (λ g. option_or g (given_by other at)) (none at (omega arith))) ∙ gives.0,
  gives_behind read one other (at + 1) blocks (λ block le. none block (omega (arith, le))) gives.1,
)

-- Two parts of what is given.
pub gives_then : (read : Read) (keys : List Key) (at middle : ℕ) (one other : List (List ℕ)) → middle ≡ at + length one → GiveBytes read keys at one → GiveBytes read keys middle other → GiveBytes read keys at (one ++ other)
gives_then read keys at middle [] other is first second = subst (λ m. GiveBytes read keys m other) (let same : middle ≡ at = omega (arith, is) in same) second
gives_then read keys at middle (bytes ∷ one) other is first second = (first.0, gives_then read keys (at + 1) middle one other (omega (arith, is)) first.1 second)

-- An extent gives the blocks that were written for it, to whatever image holds them.
module _ (read : Read) (key : Key) (pointers : List Pointer) (blocks : List (List ℕ)) (first : ℕ) (is : key.value ≡ Some (values.Extent (record { pointers = pointers; digests = map short_of blocks }))) (ends : key.pos.offset ≡ first + length blocks) where
  pub gives_each : (index at : ℕ) (done rest : List (List ℕ)) → at ≡ first + index → index ≡ length done → done ++ rest ≡ blocks → All (IsHeld read) (written_at index pointers rest) → GiveBytes read (key ∷ []) at rest
  gives_each index at done [] where_at where_in split held = tt
  gives_each index at done (bytes ∷ rest) where_at where_in split held = (
    given,
    gives_each (index + 1) (at + 1) (done ++ bytes ∷ []) rest (omega (arith, where_at)) (let long = length-append done (bytes ∷ []) in omega (arith, long, where_in))
        (append_snoc done bytes rest ∙ split) (All-tail (IsHeld read) (record { places = places_at index pointers; digest = short_of bytes; bytes = bytes }) (written_at (index + 1) pointers rest) held),
  )
    where
      extent : Extent
      extent = record { pointers = pointers; digests = map short_of blocks }

      within : index < length blocks
      within = let long = length-append done (bytes ∷ rest) in let same : length (done ++ bytes ∷ rest) ≡ length blocks = ap length split in omega (arith, long, same, where_in)

      there : get_or blocks index bytes ≡ bytes
      there = (λ i. get_or (sym split i) (where_in i) bytes) ∙ get_or-append_seam done bytes rest bytes

      given : option_and_then (bytes_of read) (given_by (key ∷ []) at) ≡ Some bytes
      given =
          ap (λ v. option_and_then (bytes_of read) (option_or (value_gives key.pos.offset v at) None)) is
          ∙ ap (λ o. option_and_then (bytes_of read) (option_or o None)) (extent_gives extent key.pos.offset at index (let long = length-map blocks short_of in omega (arith, long, ends)) (let long = length-map blocks short_of in omega (arith, long, ends, where_at)) (let long = length-map blocks short_of in omega (arith, long, within)))
          ∙ ap (read (places_at index pointers)) (get_or-map short_of blocks index bytes 0 within ∙ ap short_of there)
          ∙ All-head (IsHeld read) (record { places = places_at index pointers; digest = short_of bytes; bytes = bytes }) (written_at (index + 1) pointers rest) held
