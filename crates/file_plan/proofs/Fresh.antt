-- Fresh keys behind one another.
use Rattle.std.proofs.Common.{◌≡◌, ℕ, zero, suc, ◌+◌, ◌-◌, ◌<◌, ◌≤◌, Bool, true, false, Option, Some, None, List, [], ◌∷◌, ◌++◌, length, slice_get, refl, sym, ap, ◌∙◌, subst, inl, inr, arith}
use Rattle.std.specs.Prelude.{◌⊎◌, All, IsSome, nat_le}
use Rattle.std.specs.Option.{option_or}
use Rattle.std.proofs.lemmas.Bool.{leb-false, leb-true}
use Rattle.std.proofs.lemmas.List.Elements.{All-cons}
use Rattle.std.proofs.lemmas.Option.{none-some as none_some, same_Some}
use Rattle.vol_types.specs.declared.keys.Key.{Key}
use Rattle.vol_types.specs.declared.positions.Pos.{Pos}
use Rattle.vol_types.specs.declared.values.Value.TheVariants as values
use Rattle.key_meaning.specs.Blocks.{Block}
use Rattle.key_meaning.specs.CoverLaws.{pos_of}
use Rattle.extent_ops.specs.Content.{AreFresh, given_by, value_gives}
use Rattle.file_plan.specs.Runs.{IsRun}
use Rattle.file_plan.proofs.Giving.{extent_gives}

-- A number is below another or not.
pub lt_or_le : (a b : ℕ) → (a < b) ⊎ (b ≤ a)
lt_or_le a b = by (nat_le b a) refl
  where
    by : (t : Bool) → nat_le b a ≡ t → (a < b) ⊎ (b ≤ a)
    by true is = inr (leb-true b a is)
    by false is = inl (leb-false b a is)

-- Where fresh keys end: none behind the last one.
pub fresh_ends : (file id from : ℕ) (keys : List Key) (i : ℕ) (last : Key) → AreFresh file id from keys → i + 1 ≡ length keys → slice_get keys i ≡ Some last → (from ≤ last.pos.offset) × All (λ (key : Key). key.pos.offset ≤ last.pos.offset) keys
fresh_ends file id from [] i last are at is = absurd (omega (arith, at))
fresh_ends file id from (key ∷ keys) zero last are at is =
    let same : key.pos.offset ≡ last.pos.offset = ap (λ (k : Key). k.pos.offset) (same_Some key last is) in
    (omega (arith, are.0.behind, same), All-cons (λ (k : Key). k.pos.offset ≤ last.pos.offset) key keys (omega (arith, same)) (λ k d lt. absurd (omega (arith, lt, at))))
fresh_ends file id from (key ∷ keys) (suc i) last are at is =
    let rest = fresh_ends file id key.pos.offset keys i last are.1 (omega (arith, at)) is in
    (omega (arith, are.0.behind, rest.0), All-cons (λ (k : Key). k.pos.offset ≤ last.pos.offset) key keys rest.0 rest.1)

-- They may begin later.
fresh_weaker : (file id low from : ℕ) (keys : List Key) → low ≤ from → AreFresh file id from keys → AreFresh file id low keys
fresh_weaker file id low from [] le are = tt
fresh_weaker file id low from (key ∷ keys) le are = (record { value = are.0.value; is = are.0.is; at = are.0.at; some = are.0.some; behind = omega (arith, are.0.behind, le) }, are.1)

-- Fresh keys behind a run.
pub fresh_then : (file id first end from : ℕ) (one other : List Key) → IsRun file id first end one → end ≤ from → AreFresh file id from other → AreFresh file id first (one ++ other)
fresh_then file id first end from [] other run le are = fresh_weaker file id first from other (omega (arith, run, le)) are
fresh_then file id first end from (key ∷ one) other run le are =
    let ends : key.pos.offset ≡ first + length run.0.extent.digests = ap (λ (p : Pos). p.offset) run.0.at in (
      record {
        value = values.Extent run.0.extent;
        is = run.0.is;
        at = run.0.at ∙ ap (λ o. pos_of file o id) (sym ends);
        some = omega (arith, run.0.blocks.0);
        behind = omega (arith, ends);
      },
      fresh_then file id key.pos.offset end from one other run.1 le are,
    )

-- A run gives each of its blocks.
pub run_gives : (file id first end block : ℕ) (keys : List Key) → IsRun file id first end keys → first ≤ block → block < end → IsSome (given_by keys block)
run_gives file id first end block [] run le lt = absurd (omega (arith, run, le, lt))
run_gives file id first end block (key ∷ keys) run le lt = by (lt_or_le block key.pos.offset) (λ behind. run_gives file id key.pos.offset end block keys run.1 behind lt)
  where
    ends : key.pos.offset ≡ first + length run.0.extent.digests
    ends = ap (λ (p : Pos). p.offset) run.0.at

    or_some : (a b : Option (Option Block)) → IsSome b → IsSome (option_or a b)
    or_some None b some = some
    or_some (Some x) b some = refl

    by : (block < key.pos.offset) ⊎ (key.pos.offset ≤ block) → (key.pos.offset ≤ block → IsSome (given_by keys block)) → IsSome (option_or (value_gives key.pos.offset key.value block) (given_by keys block))
    by (inl here) rest = subst (λ (v : Option (Option Block)). IsSome (option_or v (given_by keys block)))
        (sym (ap (λ v. value_gives key.pos.offset v block) run.0.is ∙ extent_gives run.0.extent key.pos.offset block (block - first) (omega (arith, ends)) (omega (arith, ends, le)) (omega (arith, ends, le, here)))) refl
    by (inr later) rest = or_some (value_gives key.pos.offset key.value block) (given_by keys block) (rest later)

-- A list with a member at its last place has one member more than that.
pub some_long : (keys : List Key) (i : ℕ) (key : Key) → slice_get keys i ≡ Some key → i ≡ length keys - 1 → i + 1 ≡ length keys
some_long [] i key is at = absurd (none_some key is)
some_long (k ∷ keys) i key is at = omega (arith, at)
