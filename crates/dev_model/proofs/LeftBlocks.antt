-- What is left of one device.
use Rattle.std.proofs.Common.{◌≡◌, ℕ, zero, suc, ◌+◌, ◌<◌, List, [], ◌∷◌, ◌++◌, length, map, take, drop, get_or, slice_get, refl, ap, ◌∙◌, sym, subst, arith, All, Some, Result, Ok, Err, IfOk}
use Rattle.std.specs.List.{zip}
use Rattle.std.proofs.lemmas.List.{length-take-le, length-append, length-drop, take-append-drop, take_more}
use Rattle.std.proofs.lemmas.List.Elements.{All-take, All-drop, All-append, All-cons, All-nil, All-head, All-tail}
use Rattle.dev_model.specs.Disk.{IsBlock, IsDisk, IsCrashOf, at_rest}
use Rattle.dev_model.specs.MemDisks.{IsKept, restored, disk_by}
use Rattle.dev_model.specs.Restart.{blocks_left_by, torn}
use Rattle.dev_model.specs.CrashDisks.{read_may_be_left}
use Rattle.dev_model.specs.declared.disk.Overwritten.{Overwritten}
use Rattle.dev_model.specs.declared.disk.Pick.{Pick}
use Rattle.dev_model.specs.declared.disk.Pick.TheVariants.{AllWritten, NoneWritten, Torn}
use Rattle.dev_model.proofs.Overwriting.{length-restored, All-restored, restored_other}
use Rattle.dev_model.proofs.SoundDisks.{at_rest_is_disk}

slice_get-take : (n : ℕ) (xs : List (List ℕ)) (i : ℕ) → i < n → slice_get (take n xs) i ≡ slice_get xs i
slice_get-take zero xs i lt = absurd (omega (arith, lt))
slice_get-take (suc n) [] i lt = refl
slice_get-take (suc n) (x ∷ xs) zero lt = refl
slice_get-take (suc n) (x ∷ xs) (suc i) lt = slice_get-take n xs i (omega (arith, lt))

-- the blocks of two lists, torn
abbrev pub all_torn : List (List ℕ) → List (List ℕ) → List (List ℕ)
all_torn first second = map (λ (pair : List ℕ × List ℕ). torn pair.0 pair.1) (zip first second)

pub torn_is_block : (first second : List ℕ) → IsBlock first → IsBlock second → IsBlock (torn first second)
torn_is_block first second one two = record {
  size = length-append (take 2048 first) (drop 2048 second) ∙ omega (arith, length-take-le 2048 first (omega (arith, one.size)), length-drop 2048 second, two.size);
  bytes = All-append (λ byte. byte < 256) (take 2048 first) (drop 2048 second) (All-take (λ byte. byte < 256) 2048 first one.bytes) (All-drop (λ byte. byte < 256) 2048 second two.bytes);
}

All-torn : (first second : List (List ℕ)) → All IsBlock first → All IsBlock second → All IsBlock (all_torn first second)
All-torn [] second one two = All-nil IsBlock
All-torn (x ∷ first) [] one two = All-nil IsBlock
All-torn (x ∷ first) (y ∷ second) one two =
    All-cons IsBlock (torn x y) (all_torn first second)
    (torn_is_block x y (All-head IsBlock x first one) (All-head IsBlock y second two))
    (All-torn first second (All-tail IsBlock x first one) (All-tail IsBlock y second two))

pub length-torn : (first second : List (List ℕ)) → length second ≡ length first → length (all_torn first second) ≡ length first
length-torn [] second same = refl
length-torn (x ∷ first) [] same = absurd (omega (arith, same))
length-torn (x ∷ first) (y ∷ second) same = ap suc (length-torn first second (omega (arith, same)))

get_or-torn : (first second : List (List ℕ)) (i : ℕ) (d e f : List ℕ) → length second ≡ length first → i < length first → get_or (all_torn first second) i f ≡ torn (get_or first i d) (get_or second i e)
get_or-torn [] second i d e f same within = absurd (omega (arith, within))
get_or-torn (x ∷ first) [] i d e f same within = absurd (omega (arith, same))
get_or-torn (x ∷ first) (y ∷ second) zero d e f same within = refl
get_or-torn (x ∷ first) (y ∷ second) (suc i) d e f same within = get_or-torn first second i d e f (omega (arith, same)) (omega (arith, within))

-- one more block is torn
pub torn_more : (first second : List (List ℕ)) (i : ℕ) (so_far new : List (List ℕ)) (x y : List ℕ) → length second ≡ length first → i < length first → x ≡ get_or first i x → y ≡ get_or second i y
    → so_far ≡ take i (all_torn first second) → new ≡ so_far ++ torn x y ∷ [] → new ≡ take (i + 1) (all_torn first second)
torn_more first second i so_far new x y same within is_x is_y are more =
    more ∙ ap (λ bs. bs ++ torn x y ∷ []) are
    ∙ ap (λ b. take i (all_torn first second) ++ b ∷ []) (ap (λ z. torn z y) is_x ∙ ap (λ z. torn (get_or first i x) z) is_y ∙ sym (get_or-torn first second i x y [] same within))
    ∙ sym (take_more (all_torn first second) i [] (omega (arith, within, length-torn first second same)))

-- a block that is the same in both lists is whole
slice_get-torn : (first second : List (List ℕ)) (i : ℕ) → slice_get second i ≡ slice_get first i → slice_get (all_torn first second) i ≡ slice_get first i
slice_get-torn [] second i same = refl
slice_get-torn (x ∷ first) [] zero same = same
slice_get-torn (x ∷ first) [] (suc i) same = same
slice_get-torn (x ∷ first) (y ∷ second) zero same =
    let e : y ≡ x = cc in
    ap (λ z. Some (torn x z)) e ∙ ap (λ z. Some z) (take-append-drop 2048 x)
slice_get-torn (x ∷ first) (y ∷ second) (suc i) same = slice_get-torn first second i same

module _ (blocks : List (List ℕ)) (overwritten : List Overwritten) (shortest : ℕ) (is : IsKept blocks overwritten shortest) where
  settled_long : length (restored overwritten blocks) ≡ length blocks
  settled_long = length-restored overwritten blocks

  settled_are : All IsBlock (restored overwritten blocks)
  settled_are = All-restored overwritten blocks is.bytes is.disk.blocks

  shortest_long : length (take shortest (restored overwritten blocks)) ≡ shortest
  shortest_long = length-take-le shortest (restored overwritten blocks) (omega (arith, settled_long, is.disk.shortest))

  torn_long : length (all_torn blocks (restored overwritten blocks)) ≡ length blocks
  torn_long = length-torn blocks (restored overwritten blocks) settled_long

  -- each pick leaves what a crash may leave
  pub pick_may_be_left : (pick : Pick) → IsCrashOf (disk_by blocks overwritten shortest) (blocks_left_by pick (disk_by blocks overwritten shortest))
  pick_may_be_left AllWritten = read_may_be_left (disk_by blocks overwritten shortest) is.disk
  pick_may_be_left NoneWritten = record {
    no_shorter = omega (arith, shortest_long);
    no_longer = omega (arith, shortest_long, is.disk.shortest);
    blocks = All-take IsBlock shortest (restored overwritten blocks) settled_are;
    settled = λ b within not_pending. slice_get-take shortest (restored overwritten blocks) b (omega (arith, within, shortest_long)) ∙ restored_other overwritten blocks shortest b not_pending;
  }
  pick_may_be_left Torn = record {
    no_shorter = omega (arith, torn_long, is.disk.shortest);
    no_longer = omega (arith, torn_long);
    blocks = All-torn blocks (restored overwritten blocks) is.disk.blocks settled_are;
    settled = λ b within not_pending. slice_get-torn blocks (restored overwritten blocks) b (restored_other overwritten blocks shortest b not_pending);
  }

  -- and what is left, at rest, is a disk
  pub pick_is_disk : (pick : Pick) (left : List (List ℕ)) → left ≡ blocks_left_by pick (disk_by blocks overwritten shortest) → IsDisk (at_rest left)
  pick_is_disk pick left exact =
      let may = pick_may_be_left pick in
      at_rest_is_disk left (omega (arith, ap length exact, may.no_longer, is.disk.size)) (subst (λ bs. All IsBlock bs) (sym exact) may.blocks)

-- a torn block is one, if there was memory for it
pub torn_if_ok : {E : Type 0} (result : Result (List ℕ) E) (first second : List ℕ) → IsBlock first → IsBlock second → IfOk result (λ bytes. bytes ≡ torn first second) → IfOk result (λ bytes. IsBlock bytes)
torn_if_ok (Ok bytes) first second one two is = subst IsBlock (sym is) (torn_is_block first second one two)
torn_if_ok (Err e) first second one two is = tt
