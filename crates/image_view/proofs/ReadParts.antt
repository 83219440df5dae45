-- What was read by a format made of formats was read part by part.
use Rattle.std.proofs.Common.{◌≡◌, ℕ, zero, suc, Bool, true, false, cond, List, [], ◌∷◌, length, Option, Some, Result, Ok, Err, refl, sym, ap, ◌∙◌}
use Rattle.key_codec.specs.Combined.{bind_ok, ok_is}
use Rattle.key_codec.specs.Formats.{FormatOf, ◌>>=◌, checked, followed, read_items}

-- A value that was read stands for what its format read.
pub mapped_of : {E A B : Type 0} (read : Result (A × List ℕ) E) (make : A → B) (y : B × List ℕ) → (read >>= (λ x. Ok (make x.0, x.1))) ≡ Ok y → (x : A × List ℕ) × (read ≡ Ok x) × (make x.0 ≡ y.0)
mapped_of {E} {A} {B} read make y is =
    let made : A × List ℕ → Result (B × List ℕ) E = λ x. Ok (make x.0, x.1) in
    let step = bind_ok read made y is in
    let same : (make step.0.0, step.0.1) ≡ y = ok_is {E = E} (make step.0.0, step.0.1) y step.2 in
    (step.0, step.1, ap (λ (r : B × List ℕ). r.0) same)

-- Of two fields the first was read, and then the second in what was left.
pub followed_of : {E A B : Type 0} (first : FormatOf E A) (second : A → FormatOf E B) (bytes : List ℕ) (x : (A × B) × List ℕ) → (followed first second).read bytes ≡ Ok x
    → (rest : List ℕ) × (first.read bytes ≡ Ok (x.0.0, rest)) × ((second x.0.0).read rest ≡ Ok (x.0.1, x.1))
followed_of {E} {A} {B} first second bytes x is =
    let made : A → B × List ℕ → Result ((A × B) × List ℕ) E = λ a y. Ok ((a, y.0), y.1) in
    let second_by : A × List ℕ → Result ((A × B) × List ℕ) E = λ f. (second f.0).read f.1 >>= made f.0 in
    let one = bind_ok (first.read bytes) second_by x is in
    let two = bind_ok ((second one.0.0).read one.0.1) (made one.0.0) x one.2 in
    let same : ((one.0.0, two.0.0), two.0.1) ≡ x = ok_is {E = E} ((one.0.0, two.0.0), two.0.1) x two.2 in (
      one.0.1,
      one.1 ∙ ap (λ (r : (A × B) × List ℕ). Ok (r.0.0, one.0.1)) same,
      ap (λ (r : (A × B) × List ℕ). (second r.0.0).read one.0.1) (sym same) ∙ two.1 ∙ ap (λ (r : (A × B) × List ℕ). Ok (r.0.1, r.1)) same,
    )

passed : {X E : Type 0} (b : Bool) (x y : X) (fault : E) → cond b (Ok x) (Err fault) ≡ Ok y → (b ≡ true) × (x ≡ y)
passed true x y fault is = (refl, ok_is x y is)
passed false x y fault is = absurd cc

-- A value that was read passes its test.
pub checked_of : {E A : Type 0} (format : FormatOf E A) (test : A → Bool) (fault : E) (bytes : List ℕ) (x : A × List ℕ) → (checked format test fault).read bytes ≡ Ok x → test x.0 ≡ true
checked_of {E} {A} format test fault bytes x is =
    let tested : A × List ℕ → Result (A × List ℕ) E = λ r. cond (test r.0) (Ok r) (Err fault) in
    let step = bind_ok (format.read bytes) tested x is in
    let passes = passed (test step.0.0) step.0 x fault step.2 in
    ap (λ (r : A × List ℕ). test r.0) (sym passes.1) ∙ passes.0

-- Of items the first was read, and then the others.
pub items_of : {E A : Type 0} (item : Option A → FormatOf E A) (before : Option A) (n : ℕ) (bytes : List ℕ) (xs : List A × List ℕ) → read_items item before (suc n) bytes ≡ Ok xs
    → (x : A × List ℕ) × (ys : List A × List ℕ) × ((item before).read bytes ≡ Ok x) × (read_items item (Some x.0) n x.1 ≡ Ok ys) × (x.0 ∷ ys.0 ≡ xs.0)
items_of {E} {A} item before n bytes xs is =
    let with_rest : A → List A × List ℕ → Result (List A × List ℕ) E = λ x rest. Ok (x ∷ rest.0, rest.1) in
    let rest_by : A × List ℕ → Result (List A × List ℕ) E = λ x. read_items item (Some x.0) n x.1 >>= with_rest x.0 in
    let first = bind_ok ((item before).read bytes) rest_by xs is in
    let rest = bind_ok (read_items item (Some first.0.0) n first.0.1) (with_rest first.0.0) xs first.2 in
    let same : (first.0.0 ∷ rest.0.0, rest.0.1) ≡ xs = ok_is {E = E} (first.0.0 ∷ rest.0.0, rest.0.1) xs rest.2 in
    (first.0, rest.0, first.1, rest.1, ap (λ (r : List A × List ℕ). r.0) same)

-- So many items were read as were to be.
pub items_count : {E A : Type 0} (item : Option A → FormatOf E A) (before : Option A) (n : ℕ) (bytes : List ℕ) (xs : List A × List ℕ) → read_items item before n bytes ≡ Ok xs → length xs.0 ≡ n
items_count {E} {A} item before zero bytes xs is = ap (λ (r : List A × List ℕ). length r.0) (sym (ok_is {E = E} ([], bytes) xs is))
items_count {E} {A} item before (suc n) bytes xs is =
    let parts = items_of item before n bytes xs is in
    ap length (sym parts.4) ∙ ap suc (items_count item (Some parts.0.0) n parts.0.1 parts.1 parts.3)
