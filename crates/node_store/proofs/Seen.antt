-- Copies that are seen block by block, where reads may fail.
use Rattle.std.proofs.Common.{◌≡◌, ◌⊎◌, ⊎_elim, inl, inr, ℕ, zero, suc, ◌+◌, ◌<◌, ◌≤◌, Bool, true, false, cond, List, [], ◌∷◌, ◌++◌, length, Option, Some, None, refl, ap, ◌∙◌, subst, arith, length-append}
use Rattle.std.specs.Prelude.{IfSome, IsSome, MatchOption, nat_lt}
use Rattle.std.proofs.lemmas.Bool.{false≢true, ltb-false, ltb-true}
use Rattle.dev_model.specs.Devices.{FaultCounts}
use Rattle.dev_model.specs.Frames.{AreNoFewer}
use Rattle.geometry.specs.Faults.{DeviceFailed}
use Rattle.node_store.specs.declared.opening.OpenBlock.{OpenBlock}
use Rattle.node_store.specs.declared.reading.Unread.{Unread}
use Rattle.node_store.specs.Answers.{AreCauses, AreSeenFrom, IsSeenFrom}
use Rattle.node_store.specs.Copies.{block_in}
use Rattle.node_store.specs.FailedReads.{IsFarthest, IsUnreadIn, farthest, read_from, unread_device}
use Rattle.node_store.specs.StoredSets.{Copies}

-- What holds of two lists of the same length block by block holds with one block more.
pub pushed : (P : Option OpenBlock → Option OpenBlock → Type 0) (xs ys : List (Option OpenBlock)) (x y : Option OpenBlock) (k : ℕ) → length ys ≡ length xs
    → (k < length xs → P (block_in xs k) (block_in ys k)) → (k ≡ length xs → P x y) → (length xs < k → P None None) → P (block_in (xs ++ x ∷ []) k) (block_in (ys ++ y ∷ []) k)
pushed P [] [] x y zero same before here behind = here refl
pushed P [] [] x y (suc k) same before here behind = behind (omega arith)
pushed P [] (b ∷ ys) x y k same before here behind = absurd (omega (arith, same))
pushed P (a ∷ xs) [] x y k same before here behind = absurd (omega (arith, same))
pushed P (a ∷ xs) (b ∷ ys) x y zero same before here behind = before (omega arith)
pushed P (a ∷ xs) (b ∷ ys) x y (suc k) same before here behind =
    pushed P xs ys x y k (omega (arith, same)) (λ lt. before (omega (arith, lt))) (λ at. here (omega (arith, at))) (λ lt. behind (omega (arith, lt)))

pub seen_none : (from : ℕ) → IsSeenFrom from [] []
seen_none from = record { later = λ n le. refl; each = λ n. inl refl }

-- What was seen from one block on was seen from a later one on.
pub seen_later : (from to : ℕ) (copy seen : List (Option OpenBlock)) → from ≤ to → IsSeenFrom from copy seen → IsSeenFrom to copy seen
seen_later from to copy seen le is = record { later = λ n at. is.later n (omega (arith, le, at)); each = is.each }

-- What couldn't be read is no farther than it was before one block more,
pub read_later : (n : ℕ) (failed : Option ℕ) (before : Option Unread) → read_from before ≤ read_from (farthest n failed before)
read_later n None before = omega arith
read_later n (Some dev) None = omega arith
read_later n (Some dev) (Some unread) = by (nat_lt n unread.block) refl
  where
    by : (b : Bool) → nat_lt n unread.block ≡ b → unread.block + 1 ≤ read_from (cond b (Some unread) (Some (record { block = n; dev = dev })))
    by true is = omega arith
    by false is = omega (arith, ltb-false n unread.block is)

-- and where that couldn't be read, all is read from behind it at the earliest.
pub read_behind : (n dev : ℕ) (before : Option Unread) → n + 1 ≤ read_from (farthest n (Some dev) before)
read_behind n dev None = omega arith
read_behind n dev (Some unread) = by (nat_lt n unread.block) refl
  where
    by : (b : Bool) → nat_lt n unread.block ≡ b → n + 1 ≤ read_from (cond b (Some unread) (Some (record { block = n; dev = dev })))
    by true is = omega (arith, ltb-true n unread.block is)
    by false is = omega arith

-- One block more is seen, as it is or not at all.
pub seen_more : (before : Option Unread) (failed : Option ℕ) (copy seen : List (Option OpenBlock)) (shown there : Option OpenBlock) → length seen ≡ length copy
    → (shown ≡ there) ⊎ ((shown ≡ None) × IsSome failed) → IsSeenFrom (read_from before) copy seen → IsSeenFrom (read_from (farthest (length copy) failed before)) (copy ++ there ∷ []) (seen ++ shown ∷ [])
seen_more before None copy seen shown there same shows so_far =
    let as_it_is : shown ≡ there = ⊎_elim (λ (e : shown ≡ there). e) (λ (no : (shown ≡ None) × IsSome {T = ℕ} None). absurd (false≢true no.1)) shows in
    record {
      later = λ n le. pushed (λ a b. b ≡ a) copy seen there shown n same (λ lt. so_far.later n le) (λ at. as_it_is) (λ lt. refl);
      each = λ n. pushed (λ a b. (b ≡ a) ⊎ (b ≡ None)) copy seen there shown n same (λ lt. so_far.each n) (λ at. inl as_it_is) (λ lt. inl refl);
    }
seen_more before (Some dev) copy seen shown there same shows so_far =
    let later = read_later (length copy) (Some dev) before in
    let behind = read_behind (length copy) dev before in
    let either : (shown ≡ there) ⊎ (shown ≡ None) = ⊎_elim (λ (e : shown ≡ there). inl e) (λ (no : (shown ≡ None) × IsSome (Some dev)). inr no.0) shows in
    record {
      later = λ n le. pushed (λ a b. b ≡ a) copy seen there shown n same (λ lt. so_far.later n (omega (arith, le, later))) (λ at. absurd (omega (arith, le, behind, at))) (λ lt. refl);
      each = λ n. pushed (λ a b. (b ≡ a) ⊎ (b ≡ None)) copy seen there shown n same (λ lt. so_far.each n) (λ at. either) (λ lt. inl refl);
    }

-- A block that couldn't be read is the farthest one, or another is.
some_farthest : (n dev : ℕ) (before : Option Unread) → farthest n (Some dev) before ≡ None → ⊥
some_farthest n dev None is = cc
some_farthest n dev (Some unread) is = by (nat_lt n unread.block) is
  where
    by : (b : Bool) → cond b (Some unread) (Some (record { block = n; dev = dev })) ≡ None → ⊥
    by true none = cc
    by false none = cc

-- Where no read failed, all is seen.
pub all_more : (before : Option Unread) (failed : Option ℕ) (n : ℕ) (copy seen : List (Option OpenBlock)) (shown there : Option OpenBlock)
    → (shown ≡ there) ⊎ ((shown ≡ None) × IsSome failed) → (before ≡ None → seen ≡ copy) → farthest n failed before ≡ None → seen ++ shown ∷ [] ≡ copy ++ there ∷ []
all_more before None n copy seen shown there shows so_far none =
    let as_it_is : shown ≡ there = ⊎_elim (λ (e : shown ≡ there). e) (λ (no : (shown ≡ None) × IsSome {T = ℕ} None). absurd (false≢true no.1)) shows in
    ap (λ (o : Option OpenBlock). seen ++ o ∷ []) as_it_is ∙ ap (λ (list : List (Option OpenBlock)). list ++ there ∷ []) (so_far none)
all_more before (Some dev) n copy seen shown there shows so_far none = absurd (some_farthest n dev before none)

-- Nothing is seen of a block that couldn't be read in this copy, also after one block more.
unread_in_more : (seen : List (Option OpenBlock)) (shown : Option OpenBlock) (dev : ℕ) (unread : Unread) → IsUnreadIn seen dev unread → IsUnreadIn (seen ++ shown ∷ []) dev unread
unread_in_more seen shown dev unread is = record {
  within = omega (arith, is.within, length-append seen (shown ∷ []));
  device = is.device;
  unseen = pushed (λ a b. b ≡ None) seen seen shown shown unread.block refl (λ lt. is.unseen) (λ at. absurd (omega (arith, at, is.within))) (λ lt. refl);
}

-- The farthest block that couldn't be read stays, or it is this one.
pub farthest_more : (first before : Option Unread) (failed : Option ℕ) (n dev_of : ℕ) (seen : List (Option OpenBlock)) (shown : Option OpenBlock) → length seen ≡ n
    → (IsSome failed → shown ≡ None) → IfSome failed (λ dev. dev ≡ dev_of) → IsFarthest first before seen dev_of → IsFarthest first (farthest n failed before) (seen ++ shown ∷ []) dev_of
farthest_more first before failed n dev_of seen shown count unseen named so_far = by failed before unseen named so_far
  where
    stays : (now : Option Unread) → IsFarthest first now seen dev_of → IsFarthest first now (seen ++ shown ∷ []) dev_of
    stays now is = ⊎_elim
        (λ (was : now ≡ first). inl was)
        (λ (here : (unread : Unread) × (now ≡ Some unread) × IsUnreadIn seen dev_of unread). inr (here.0, here.1, unread_in_more seen shown dev_of here.0 here.2))
        is

    this : (dev : ℕ) → shown ≡ None → dev ≡ dev_of → IsUnreadIn (seen ++ shown ∷ []) dev_of (record { block = n; dev = dev })
    this dev none e = record {
      within = omega (arith, count, length-append seen (shown ∷ []));
      device = e;
      unseen = pushed (λ a b. b ≡ None) seen seen shown shown n refl (λ lt. absurd (omega (arith, lt, count))) (λ at. none) (λ lt. refl);
    }

    either : (dev : ℕ) (unread : Unread) (b : Bool) → shown ≡ None → dev ≡ dev_of → IsFarthest first (Some unread) seen dev_of → IsFarthest first (cond b (Some unread) (Some (record { block = n; dev = dev }))) (seen ++ shown ∷ []) dev_of
    either dev unread true none e is = stays (Some unread) is
    either dev unread false none e is = inr (record { block = n; dev = dev }, refl, this dev none e)

    by : (failed : Option ℕ) (before : Option Unread) → (IsSome failed → shown ≡ None) → IfSome failed (λ dev. dev ≡ dev_of) → IsFarthest first before seen dev_of → IsFarthest first (farthest n failed before) (seen ++ shown ∷ []) dev_of
    by None before none named is = stays before is
    by (Some dev) None none named is = inr (record { block = n; dev = dev }, refl, this dev (none refl) named)
    by (Some dev) (Some unread) none named is = either dev unread (nat_lt n unread.block) (none refl) named is

-- Nothing was read yet, or one part of the reads came after another.
pub causes_here : (before : Option ℕ) (faults : FaultCounts) → AreCauses before before faults faults
causes_here None faults = (refl, refl)
causes_here (Some dev) faults = inl refl

pub causes_then : (before mid after : Option ℕ) (first second last : FaultCounts) → AreNoFewer first.calls second.calls → AreNoFewer second.calls last.calls
    → AreCauses before mid first second → AreCauses mid after second last → AreCauses before after first last
causes_then before mid None first second last one other earlier later =
    let was = subst (λ (m : Option ℕ). AreCauses before m first second) later.0 earlier in
    (was.0, later.1 ∙ was.1)
causes_then before mid (Some dev) first second last one other earlier later = ⊎_elim
    (λ (named : mid ≡ Some dev). ⊎_elim
    (λ (was : before ≡ Some dev). inl was)
    (λ (failed : DeviceFailed dev first second). inr (let f : DeviceFailed dev first last = omega (arith, failed, other dev) in f))
    (subst (λ (m : Option ℕ). AreCauses before m first second) named earlier))
    (λ (failed : DeviceFailed dev second last). inr (let f : DeviceFailed dev first last = omega (arith, failed, one dev) in f))
    later

-- The device of a read that failed is that of its place.
pub named_place : (failed : Option ℕ) (dev_of : ℕ) (old new : FaultCounts) → MatchOption failed (new ≡ old) (λ dev. (dev ≡ dev_of) × DeviceFailed dev old new) → IfSome failed (λ dev. dev ≡ dev_of)
named_place None dev_of old new cause = tt
named_place (Some dev) dev_of old new cause = cause.0

-- One read more.
pub causes_by : (before : Option Unread) (failed : Option ℕ) (n dev_of : ℕ) (old new : FaultCounts)
    → MatchOption failed (new ≡ old) (λ dev. (dev ≡ dev_of) × DeviceFailed dev old new) → AreCauses (unread_device before) (unread_device (farthest n failed before)) old new
causes_by None None n dev_of old new cause = (refl, cause)
causes_by (Some unread) None n dev_of old new cause = inl refl
causes_by None (Some dev) n dev_of old new cause = inr cause.1
causes_by (Some unread) (Some dev) n dev_of old new cause = by (nat_lt n unread.block)
  where
    by : (b : Bool) → AreCauses (Some unread.dev) (unread_device (cond b (Some unread) (Some (record { block = n; dev = dev })))) old new
    by true = inl refl
    by false = inr cause.1

-- The copies of so many places are seen.
pub copies_later : (from to : ℕ) (copies seen : Copies) → from ≤ to → AreSeenFrom from copies seen → AreSeenFrom to copies seen
copies_later from to [] [] le are = are
copies_later from to [] (s ∷ seen) le are = absurd are
copies_later from to (c ∷ copies) [] le are = absurd are
copies_later from to (c ∷ copies) (s ∷ seen) le are = (seen_later from to c s le are.0, copies_later from to copies seen le are.1)

pub copies_more : (from : ℕ) (copies seen : Copies) (copy shown : List (Option OpenBlock)) → AreSeenFrom from copies seen → IsSeenFrom from copy shown → AreSeenFrom from (copies ++ copy ∷ []) (seen ++ shown ∷ [])
copies_more from [] [] copy shown are is = (is, tt)
copies_more from [] (s ∷ seen) copy shown are is = absurd are
copies_more from (c ∷ copies) [] copy shown are is = absurd are
copies_more from (c ∷ copies) (s ∷ seen) copy shown are is = (are.0, copies_more from copies seen copy shown are.1 is)

-- Copies are seen as they are.
pub seen_itself : (from : ℕ) (copies : Copies) → AreSeenFrom from copies copies
seen_itself from [] = tt
seen_itself from (c ∷ copies) = (record { later = λ n le. refl; each = λ n. inl refl }, seen_itself from copies)
