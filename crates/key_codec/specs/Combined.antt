-- Formats that are made of exact formats are exact.
use Rattle.std.proofs.Common.{◌≡◌, ◌≢◌, ℕ, zero, suc, ◌<◌, ◌≤◌, ◌⊎◌, inl, inr, Bool, true, false, cond, List, [], ◌∷◌, ◌++◌, length, take, drop, Option, None, Some, Result, Ok, Err, ltb, get_or, refl, sym, ap, subst, ◌∙◌, append_assoc, length-append, arith}
use Rattle.std.specs.List.{flat_map}
use Rattle.std.specs.Prelude.{⊤}
use Rattle.std.proofs.lemmas.Bool.{ltb-false, le-ltb, lt-ltb}
use Rattle.std.proofs.lemmas.List.{take_at, drop_at, take-append-drop, length-take, get_or_append_left}
use Rattle.std.proofs.lemmas.List.Concat.{flat_map-cons}
use Rattle.std.proofs.lemmas.List.Elements.{All-take}
use Rattle.vol_types.specs.Widths.{AreBytes}
use Rattle.key_codec.specs.declared.fault.KeyFault.{KeyFault}
use Rattle.key_codec.specs.declared.fault.KeyFault.TheVariants.{Short}
use Rattle.key_codec.specs.Exact.{IsExactBut, IsExact}
use Rattle.key_codec.specs.Formats.{FormatOf, ◌>>=◌, first_byte, first_bytes, fixed, u8_byte, mapped, checked_by, checked, followed, both, read_items, items, carried, lifted}

-- ---- steps that may fail

-- a step that did not fail, and the one after it
pub bind_ok : {E A B : Type 0} (r : Result A E) (f : A → Result B E) (y : B) → (r >>= f) ≡ Ok y → (x : A) × (r ≡ Ok x) × (f x ≡ Ok y)
bind_ok (Ok x) f y e = (x, refl, e)
bind_ok (Err d) f y e = absurd cc

-- a step that failed, or the one after it
pub bind_err : {E A B : Type 0} (r : Result A E) (f : A → Result B E) (fault : E) → (r >>= f) ≡ Err fault → (r ≡ Err fault) ⊎ ((x : A) × (r ≡ Ok x) × (f x ≡ Err fault))
bind_err (Ok x) f fault e = inr (x, refl, e)
bind_err (Err d) f fault e = let same : d ≡ fault = cc in inl (ap (λ d. Err d) same)

guard_ok : {E A : Type 0} (b : Bool) (fault : E) (x y : A) → cond b (Ok x) (Err fault) ≡ Ok y → (b ≡ true) × (x ≡ y)
guard_ok true fault x y e = (refl, cc)
guard_ok false fault x y e = absurd cc

guard_err : {E A : Type 0} (b : Bool) (fault d : E) (x : A) → cond b (Ok x) (Err fault) ≡ Err d → (b ≡ false) × (fault ≡ d)
guard_err true fault d x e = absurd cc
guard_err false fault d x e = (refl, cc)

-- what was read
abbrev pub done : {E A : Type 0} → A → Result A E
done x = Ok x

-- What was read is one value.
pub ok_is : {E A : Type 0} (x y : A) → done {E = E} x ≡ done y → x ≡ y
ok_is x y e = cc

-- What was read is no fault.
pub ok_no_err : {E A : Type 0} (x : A) (fault : E) → done x ≡ Err fault → ⊥
ok_no_err x fault e = absurd cc

guard_short : {A : Type 0} (b : Bool) (x y : A) → cond b (Err Short) (Ok x) ≡ done y → (b ≡ false) × (x ≡ y)
guard_short true x y e = absurd cc
guard_short false x y e = (refl, cc)

short_only : {A : Type 0} (b : Bool) (x : A) (fault : KeyFault) → cond b (Err Short) (done x) ≡ Err fault → fault ≡ Short
short_only true x fault e = cc
short_only false x fault e = absurd cc

-- ---- bytes

pub AreBytes-after : (prefix rest : List ℕ) → AreBytes (prefix ++ rest) → AreBytes rest
AreBytes-after [] rest are = are
AreBytes-after (b ∷ prefix) rest are = AreBytes-after prefix rest (λ k d lt. are (suc k) d (omega arith))

pub AreBytes-prefix : (prefix rest : List ℕ) → AreBytes (prefix ++ rest) → AreBytes prefix
AreBytes-prefix prefix rest are = λ k d lt.
    let same : get_or (prefix ++ rest) k d ≡ get_or prefix k d = get_or_append_left prefix rest d k lt in
    subst (λ b. b < 256) same (are k d (omega (arith, length-append prefix rest)))

-- Where two cuts of a list meet: the second is within the first part, or after it.
meet : (first second prefix rest : List ℕ) → first ++ second ≡ prefix ++ rest
    → ((more : List ℕ) × (first ≡ prefix ++ more) × (0 < length more)) ⊎ ((middle : List ℕ) × (prefix ≡ first ++ middle) × (second ≡ middle ++ rest))
meet [] second prefix rest e = inr (prefix, refl, e)
meet (a ∷ first) second [] rest e = inl (a ∷ first, refl, omega arith)
meet (a ∷ first) second (b ∷ prefix) rest e =
    let heads : a ≡ b = cc in
    let tails : first ++ second ≡ prefix ++ rest = cc in
    elim (meet first second prefix rest tails) [
      | inl w ↦ let same : a ∷ first ≡ b ∷ (prefix ++ w.0) = cc in inl (w.0, same, w.2)
      | inr w ↦ let same : b ∷ prefix ≡ a ∷ (first ++ w.0) = cc in inr (w.0, same, w.2)
    ]

-- ---- formats

-- What was read is read again where more follows.
pub longer : {E A : Type 0} {short : E} (Fits : A → Type 0) (format : FormatOf E A) → IsExactBut short Fits format → (bytes more : List ℕ) (x : A) (rest : List ℕ) → AreBytes bytes → format.read bytes ≡ Ok (x, rest) → format.read (bytes ++ more) ≡ Ok (x, rest ++ more)
longer Fits format exact bytes more x rest are e =
    let f = exact.found bytes x rest are e in
    let whole : bytes ++ more ≡ format.encode x ++ (rest ++ more) = ap (λ b. b ++ more) f.1 ∙ append_assoc (format.encode x) rest more in
    ap format.read whole ∙ exact.only x (rest ++ more) f.0

-- The bytes after what was read are bytes.
pub AreBytes-rest : {E A : Type 0} {short : E} (Fits : A → Type 0) (format : FormatOf E A) → IsExactBut short Fits format → (bytes : List ℕ) (x : A) (rest : List ℕ) → AreBytes bytes → format.read bytes ≡ Ok (x, rest) → AreBytes rest
AreBytes-rest Fits format exact bytes x rest are e =
    let f = exact.found bytes x rest are e in
    AreBytes-after (format.encode x) rest (subst (λ b. AreBytes b) f.1 are)

-- The same values fit.
pub refit : {E A : Type 0} {short : E} (F G : A → Type 0) (format : FormatOf E A) → ((x : A) → F x → G x) → ((x : A) → G x → F x) → IsExactBut short F format → IsExactBut short G format
refit F G format to from exact = record {
  found = λ bytes x rest are e. let f = exact.found bytes x rest are e in (to x f.0, f.1);
  only = λ x rest fits. exact.only x rest (from x fits);
  cut = λ x prefix rest fits e some. exact.cut x prefix rest (from x fits) e some;
  settled = exact.settled;
}

u8_found : (bytes : List ℕ) (x : ℕ) (rest : List ℕ) → AreBytes bytes → first_byte bytes ≡ Ok (x, rest) → (x < 256) × (bytes ≡ x ∷ rest)
u8_found [] x rest are e = absurd cc
u8_found (b ∷ bytes) x rest are e =
    subst (λ (p : ℕ × List ℕ). (p.0 < 256) × (b ∷ bytes ≡ p.0 ∷ p.1)) (ok_is (b, bytes) (x, rest) e) (are 0 0 (omega arith), refl)

u8_cut : (x : ℕ) (prefix rest : List ℕ) → x ∷ [] ≡ prefix ++ rest → 0 < length rest → first_byte prefix ≡ Err Short
u8_cut x [] rest e some = refl
u8_cut x (b ∷ prefix) rest e some =
    let tails : [] ≡ prefix ++ rest = cc in
    absurd (omega (arith, ap length tails, length-append prefix rest, some))

u8_settled : (bytes more : List ℕ) (fault : KeyFault) → fault ≢ Short → first_byte bytes ≡ Err fault → first_byte (bytes ++ more) ≡ Err fault
u8_settled [] more fault other e = let same : fault ≡ Short = cc in absurd (other same)
u8_settled (b ∷ bytes) more fault other e = absurd (ok_no_err (b, bytes) fault e)

-- One byte is exact.
pub u8_byte-exact : IsExact (λ n. n < 256) u8_byte
unfolding u8_byte
u8_byte-exact = record {
  found = u8_found;
  only = λ x rest fits. refl;
  cut = λ x prefix rest fits e some. u8_cut x prefix rest e some;
  settled = λ bytes more fault are other e. u8_settled bytes more fault other e;
}

fixed_found : (n : ℕ) (bytes x rest : List ℕ) → AreBytes bytes → first_bytes n bytes ≡ Ok (x, rest) → ((length x ≡ n) × AreBytes x) × (bytes ≡ x ++ rest)
fixed_found n bytes x rest are e =
    let g = guard_short (ltb (length bytes) n) (take n bytes, drop n bytes) (x, rest) e in
    let long : n ≤ length bytes = ltb-false _ _ g.0 in
    subst (λ (p : List ℕ × List ℕ). ((length p.0 ≡ n) × AreBytes p.0) × (bytes ≡ p.0 ++ p.1)) g.1 ((omega (arith, length-take n bytes), All-take (λ b. b < 256) n bytes are), sym (take-append-drop n bytes))

fixed_only : (n : ℕ) (x rest : List ℕ) → length x ≡ n → first_bytes n (x ++ rest) ≡ Ok (x, rest)
fixed_only n x rest size =
    let long : ltb (length (x ++ rest)) n ≡ false = le-ltb _ _ (omega (arith, length-append x rest)) in
    rw (long, take_at x rest n size, drop_at x rest n size) refl

fixed_cut : (n : ℕ) (x prefix rest : List ℕ) → length x ≡ n → x ≡ prefix ++ rest → 0 < length rest → first_bytes n prefix ≡ Err Short
fixed_cut n x prefix rest size e some =
    let short : ltb (length prefix) n ≡ true = lt-ltb _ _ (omega (arith, ap length e, length-append prefix rest)) in
    rw short refl

-- So many bytes are exact.
pub fixed-exact : (n : ℕ) → IsExact (λ bytes. (length bytes ≡ n) × AreBytes bytes) (fixed n)
fixed-exact n = record {
  found = fixed_found n;
  only = λ x rest fits. fixed_only n x rest fits.0;
  cut = λ x prefix rest fits e some. fixed_cut n x prefix rest fits.0 e some;
  settled = λ bytes more fault are other e. absurd (other (short_only (ltb (length bytes) n) (take n bytes, drop n bytes) fault e));
}

-- A value that stands for another is exact.
pub mapped-exact : {E A B : Type 0} {short : E} (F : A → Type 0) (G : B → Type 0) (format : FormatOf E A) (make : A → B) (see : B → A)
    → ((x : A) → F x → G (make x) × (see (make x) ≡ x)) → ((y : B) → G y → F (see y) × (make (see y) ≡ y)) → IsExactBut short F format → IsExactBut short G (mapped format make see)
mapped-exact {E} {A} {B} F G format make see to from exact =
    let next : A × List ℕ → Result (B × List ℕ) E = λ x. Ok (make x.0, x.1) in
    record {
      found = λ bytes y rest are e.
          let b = bind_ok (format.read bytes) next (y, rest) e in
          let f = exact.found bytes b.0.0 b.0.1 are b.1 in
          let t = to b.0.0 f.0 in
          subst (λ (p : B × List ℕ). G p.0 × (bytes ≡ format.encode (see p.0) ++ p.1)) (ok_is (make b.0.0, b.0.1) (y, rest) b.2) (t.0, f.1 ∙ ap (λ s. format.encode s ++ b.0.1) (sym t.1));
      only = λ y rest fits. let f = from y fits in ap (λ r. r >>= next) (exact.only (see y) rest f.0) ∙ ap (λ z. Ok (z, rest)) f.1;
      cut = λ y prefix rest fits e some. ap (λ r. r >>= next) (exact.cut (see y) prefix rest (from y fits).0 e some);
      settled = λ bytes more fault are other e.
          elim (bind_err (format.read bytes) next fault e) [
            | inl p ↦ ap (λ r. r >>= next) (exact.settled bytes more fault are other p)
            | inr w ↦ absurd (ok_no_err (make w.0.0, w.0.1) fault w.2)
          ];
    }

-- A value that passes a test is exact, with a fault for each value.
pub checked_by-exact : {E A : Type 0} {short : E} (F : A → Type 0) (format : FormatOf E A) (test : A → Bool) (bad : A → E) → IsExactBut short F format → IsExactBut short (λ x. F x × (test x ≡ true)) (checked_by format test bad)
checked_by-exact {E} {A} F format test bad exact =
    let next : A × List ℕ → Result (A × List ℕ) E = λ x. cond (test x.0) (Ok x) (Err (bad x.0)) in
    record {
      found = λ bytes y rest are e.
          let b = bind_ok (format.read bytes) next (y, rest) e in
          let g = guard_ok (test b.0.0) (bad b.0.0) b.0 (y, rest) b.2 in
          let f = exact.found bytes b.0.0 b.0.1 are b.1 in
          subst (λ (p : A × List ℕ). (F p.0 × (test p.0 ≡ true)) × (bytes ≡ format.encode p.0 ++ p.1)) g.1 ((f.0, g.0), f.1);
      only = λ y rest fits. ap (λ r. r >>= next) (exact.only y rest fits.0) ∙ ap (λ b. cond b (Ok (y, rest)) (Err (bad y))) fits.1;
      cut = λ y prefix rest fits e some. ap (λ r. r >>= next) (exact.cut y prefix rest fits.0 e some);
      settled = λ bytes more fault are other e.
          elim (bind_err (format.read bytes) next fault e) [
            | inl p ↦ ap (λ r. r >>= next) (exact.settled bytes more fault are other p)
            | inr w ↦
                let g = guard_err (test w.0.0) (bad w.0.0) fault w.0 w.2 in
                ap (λ r. r >>= next) (longer F format exact bytes more w.0.0 w.0.1 are w.1) ∙ ap (λ b. cond b (Ok (w.0.0, w.0.1 ++ more)) (Err (bad w.0.0))) g.0 ∙ ap (λ d. Err d) g.1
          ];
    }

-- A value that passes a test is exact.
pub checked-exact : {E A : Type 0} {short : E} (F : A → Type 0) (format : FormatOf E A) (test : A → Bool) (bad : E) → IsExactBut short F format → IsExactBut short (λ x. F x × (test x ≡ true)) (checked format test bad)
checked-exact F format test bad exact = checked_by-exact F format test (λ _. bad) exact

carried_ok : {E F X : Type 0} (named : F → E) (read : Result X F) (x : X) → carried named read ≡ Ok x → read ≡ Ok x
carried_ok named (Ok y) x e = let same : y ≡ x = cc in ap (λ z. Ok z) same
carried_ok named (Err fault) x e = absurd cc

carried_err : {E F X : Type 0} (named : F → E) (read : Result X F) (fault : E) → carried named read ≡ Err fault → (first : F) × (read ≡ Err first) × (named first ≡ fault)
carried_err named (Ok y) fault e = absurd cc
carried_err named (Err first) fault e = let same : named first ≡ fault = cc in (first, refl, same)

-- A format whose faults are named otherwise is exact, where a encoding that is cut keeps its fault.
pub lifted-exact : {E F A : Type 0} {short : E} {cut : F} (P : A → Type 0) (named : F → E) (format : FormatOf F A) → named cut ≡ short → IsExactBut cut P format → IsExactBut short P (lifted named format)
lifted-exact {E} {F} {A} {short} {cut} P named format same exact = record {
  found = λ bytes x rest are e. exact.found bytes x rest are (carried_ok named (format.read bytes) (x, rest) e);
  only = λ x rest fits. ap (carried named) (exact.only x rest fits);
  cut = λ x prefix rest fits e some. ap (carried named) (exact.cut x prefix rest fits e some) ∙ ap (λ fault. Err fault) same;
  settled = λ bytes more fault are other e.
      let first = carried_err named (format.read bytes) fault e in
      ap (carried named) (exact.settled bytes more first.0 are (λ is_cut. other (sym first.2 ∙ ap named is_cut ∙ same)) first.1) ∙ ap (λ f. Err f) first.2;
}

-- One field and then another are exact.
pub followed-exact : {E A B : Type 0} {short : E} (F : A → Type 0) (G : A → B → Type 0) (first : FormatOf E A) (second : A → FormatOf E B)
    → IsExactBut short F first → ((x : A) → IsExactBut short (G x) (second x)) → IsExactBut short (λ p. F p.0 × G p.0 p.1) (followed first second)
followed-exact {E} {A} {B} F G first second exact then_exact =
    let last : A → B × List ℕ → Result ((A × B) × List ℕ) E = λ x y. Ok ((x, y.0), y.1) in
    let next : A × List ℕ → Result ((A × B) × List ℕ) E = λ x. (second x.0).read x.1 >>= last x.0 in
    record {
      found = λ bytes z rest are e.
          let b = bind_ok (first.read bytes) next (z, rest) e in
          let f = exact.found bytes b.0.0 b.0.1 are b.1 in
          let are' = AreBytes-rest F first exact bytes b.0.0 b.0.1 are b.1 in
          let d = bind_ok ((second b.0.0).read b.0.1) (last b.0.0) (z, rest) b.2 in
          let g = (then_exact b.0.0).found b.0.1 d.0.0 d.0.1 are' d.1 in
          let encoded : bytes ≡ (first.encode b.0.0 ++ (second b.0.0).encode d.0.0) ++ d.0.1 = f.1 ∙ ap (λ r. first.encode b.0.0 ++ r) g.1 ∙ sym (append_assoc (first.encode b.0.0) ((second b.0.0).encode d.0.0) d.0.1) in
          subst (λ (p : (A × B) × List ℕ). (F p.0.0 × G p.0.0 p.0.1) × (bytes ≡ (first.encode p.0.0 ++ (second p.0.0).encode p.0.1) ++ p.1)) (ok_is ((b.0.0, d.0.0), d.0.1) (z, rest) d.2) ((f.0, g.0), encoded);
      only = λ z rest fits.
          ap (λ b. first.read b >>= next) (append_assoc (first.encode z.0) ((second z.0).encode z.1) rest)
          ∙ ap (λ r. r >>= next) (exact.only z.0 ((second z.0).encode z.1 ++ rest) fits.0)
          ∙ ap (λ r. r >>= last z.0) ((then_exact z.0).only z.1 rest fits.1);
      cut = λ z prefix rest fits e some.
          elim (meet (first.encode z.0) ((second z.0).encode z.1) prefix rest e) [
            | inl w ↦ ap (λ r. r >>= next) (exact.cut z.0 prefix w.0 fits.0 w.1 w.2)
            | inr w ↦ ap (λ b. first.read b >>= next) w.1 ∙ ap (λ r. r >>= next) (exact.only z.0 w.0 fits.0) ∙ ap (λ r. r >>= last z.0) ((then_exact z.0).cut z.1 w.0 rest fits.1 w.2 some)
          ];
      settled = λ bytes more fault are other e.
          elim (bind_err (first.read bytes) next fault e) [
            | inl p ↦ ap (λ r. r >>= next) (exact.settled bytes more fault are other p)
            | inr w ↦ ap (λ r. r >>= next) (longer F first exact bytes more w.0.0 w.0.1 are w.1)
                ∙ elim (bind_err ((second w.0.0).read w.0.1) (last w.0.0) fault w.2) [
                  | inl q ↦ ap (λ r. r >>= last w.0.0) ((then_exact w.0.0).settled w.0.1 more fault (AreBytes-rest F first exact bytes w.0.0 w.0.1 are w.1) other q)
                  | inr v ↦ absurd (ok_no_err ((w.0.0, v.0.0), v.0.1) fault v.2)
                ]
          ];
    }

-- One format and another are exact, with what fits each.
pub both-exact : {E A B : Type 0} {short : E} (F : A → Type 0) (G : B → Type 0) (first : FormatOf E A) (second : FormatOf E B) → IsExactBut short F first → IsExactBut short G second → IsExactBut short (λ p. F p.0 × G p.1) (both first second)
both-exact F G first second exact then_exact = followed-exact F (λ _ y. G y) first (λ _. second) exact (λ _. then_exact)

-- ---- lists

-- Each item fits after the one before it.
abbrev pub FitFrom : {A : Type 0} → (Option A → A → Type 0) → Option A → List A → Type 0
FitFrom F before [] = ⊤
FitFrom F before (x ∷ xs) = F before x × FitFrom F (Some x) xs

-- so many items after another
abbrev pub items_from : {E A : Type 0} → (Option A → FormatOf E A) → Option A → ℕ → FormatOf E (List A)
items_from item before n = record { encode = flat_map (item None).encode; read = read_items item before n }

abbrev as_pair : {E A : Type 0} → A → List A × List ℕ → Result ((A × List A) × List ℕ) E
as_pair x xs = Ok ((x, xs.0), xs.1)

abbrev joined : {E A : Type 0} → (A × List A) × List ℕ → Result (List A × List ℕ) E
joined p = Ok (p.0.0 ∷ p.0.1, p.1)

paired_again : {E A : Type 0} (x : A) (r : Result (List A × List ℕ) E)
    → (r >>= λ xs. Ok (x ∷ xs.0, xs.1)) ≡ ((r >>= as_pair x) >>= joined)
paired_again x (Ok xs) = refl
paired_again x (Err fault) = refl

paired : {E A : Type 0} (r : Result (A × List ℕ) E) (s : A × List ℕ → Result (List A × List ℕ) E)
    → (r >>= λ x. s x >>= λ xs. Ok (x.0 ∷ xs.0, xs.1)) ≡ ((r >>= λ x. s x >>= as_pair x.0) >>= joined)
paired (Ok x) s = paired_again x.0 (s x)
paired (Err fault) s = refl

-- The encoding of the items doesn't depend on the one before.
abbrev pub EncodesAlike : {E A : Type 0} → (Option A → FormatOf E A) → Type 0
EncodesAlike {E} {A} item = (before : Option A) (x : A) → (item before).encode x ≡ (item None).encode x

seam : {E A : Type 0} (item : Option A → FormatOf E A) → EncodesAlike item → (before : Option A) (x : A) (xs : List A) → (item before).encode x ++ flat_map (item None).encode xs ≡ flat_map (item None).encode (x ∷ xs)
seam item alike before x xs = ap (λ s. s ++ flat_map (item None).encode xs) (alike before x) ∙ sym (flat_map-cons (item None).encode x xs)

none_only : {E A : Type 0} (item : Option A → FormatOf E A) (before : Option A) (xs : List A) (rest : List ℕ) → length xs ≡ 0 → read_items item before 0 (flat_map (item None).encode xs ++ rest) ≡ Ok (xs, rest)
none_only item before [] rest size = refl
none_only item before (x ∷ xs) rest size = absurd (omega arith)

none_cut : {A : Type 0} (encode : A → List ℕ) (xs : List A) (prefix rest : List ℕ) → length xs ≡ 0 → flat_map encode xs ≡ prefix ++ rest → 0 < length rest → ⊥
none_cut encode [] prefix rest size e some = omega (arith, ap length e, length-append prefix rest)
none_cut encode (x ∷ xs) prefix rest size e some = omega arith

none-exact : {E A : Type 0} {short : E} (F : Option A → A → Type 0) (item : Option A → FormatOf E A) (before : Option A) → IsExactBut short (λ xs. FitFrom F before xs × (length xs ≡ 0)) (items_from item before 0)
none-exact {E} {A} F item before = record {
  found = λ bytes xs rest are e. subst (λ (p : List A × List ℕ). (FitFrom F before p.0 × (length p.0 ≡ 0)) × (bytes ≡ flat_map (item None).encode p.0 ++ p.1)) (ok_is ([], bytes) (xs, rest) e) ((tt, refl), refl);
  only = λ xs rest fits. none_only item before xs rest fits.1;
  cut = λ xs prefix rest fits e some. absurd (none_cut (item None).encode xs prefix rest fits.1 e some);
  settled = λ bytes more fault are other e. absurd (ok_no_err ([], bytes) fault e);
}

-- so many items, as the first and the others
abbrev pair_of : {E A : Type 0} → (Option A → FormatOf E A) → Option A → ℕ → FormatOf E (A × List A)
pair_of item before n = followed (item before) (λ x. items_from item (Some x) n)

abbrev PairFits : {A : Type 0} → (Option A → A → Type 0) → Option A → ℕ → A × List A → Type 0
PairFits F before n p = F before p.0 × (FitFrom F (Some p.0) p.1 × (length p.1 ≡ n))

pairs : {E A : Type 0} (item : Option A → FormatOf E A) (before : Option A) (n : ℕ) (bytes : List ℕ) → read_items item before (suc n) bytes ≡ ((pair_of item before n).read bytes >>= joined)
pairs item before n bytes = paired ((item before).read bytes) (λ x. read_items item (Some x.0) n x.1)

more_only : {E A : Type 0} {short : E} (F : Option A → A → Type 0) (item : Option A → FormatOf E A) → EncodesAlike item → (before : Option A) (n : ℕ) → IsExactBut short (PairFits F before n) (pair_of item before n)
    → (xs : List A) (rest : List ℕ) → FitFrom F before xs → length xs ≡ suc n → read_items item before (suc n) (flat_map (item None).encode xs ++ rest) ≡ Ok (xs, rest)
more_only F item alike before n pair [] rest fits size = absurd (omega arith)
more_only F item alike before n pair (x ∷ xs) rest fits size =
    let bytes = flat_map (item None).encode (x ∷ xs) ++ rest in
    let regrouped : bytes ≡ (pair_of item before n).encode (x, xs) ++ rest = ap (λ s. s ++ rest) (sym (seam item alike before x xs)) in
    pairs item before n bytes ∙ ap (λ b. (pair_of item before n).read b >>= joined) regrouped ∙ ap (λ r. r >>= joined) (pair.only (x, xs) rest (fits.0, (fits.1, omega arith)))

more_cut : {E A : Type 0} {short : E} (F : Option A → A → Type 0) (item : Option A → FormatOf E A) → EncodesAlike item → (before : Option A) (n : ℕ) → IsExactBut short (PairFits F before n) (pair_of item before n)
    → (xs : List A) (prefix rest : List ℕ) → FitFrom F before xs → length xs ≡ suc n → flat_map (item None).encode xs ≡ prefix ++ rest → 0 < length rest → read_items item before (suc n) prefix ≡ Err short
more_cut F item alike before n pair [] prefix rest fits size e some = absurd (omega arith)
more_cut F item alike before n pair (x ∷ xs) prefix rest fits size e some =
    pairs item before n prefix ∙ ap (λ r. r >>= joined) (pair.cut (x, xs) prefix rest (fits.0, (fits.1, omega arith)) (seam item alike before x xs ∙ e) some)

more-exact : {E A : Type 0} {short : E} (F : Option A → A → Type 0) (item : Option A → FormatOf E A) → EncodesAlike item → (before : Option A) (n : ℕ) → IsExactBut short (PairFits F before n) (pair_of item before n) → IsExactBut short (λ xs. FitFrom F before xs × (length xs ≡ suc n)) (items_from item before (suc n))
more-exact {E} {A} F item alike before n pair = record {
  found = λ bytes xs rest are e.
      let b = bind_ok ((pair_of item before n).read bytes) joined (xs, rest) (sym (pairs item before n bytes) ∙ e) in
      let f = pair.found bytes b.0.0 b.0.1 are b.1 in
      let encoded : bytes ≡ flat_map (item None).encode (b.0.0.0 ∷ b.0.0.1) ++ b.0.1 = f.1 ∙ ap (λ s. s ++ b.0.1) (seam item alike before b.0.0.0 b.0.0.1) in
      let size : length (b.0.0.0 ∷ b.0.0.1) ≡ suc n = ap suc f.0.1.1 in
      subst (λ (p : List A × List ℕ). (FitFrom F before p.0 × (length p.0 ≡ suc n)) × (bytes ≡ flat_map (item None).encode p.0 ++ p.1)) (ok_is (b.0.0.0 ∷ b.0.0.1, b.0.1) (xs, rest) b.2) (((f.0.0, f.0.1.0), size), encoded);
  only = λ xs rest fits. more_only F item alike before n pair xs rest fits.0 fits.1;
  cut = λ xs prefix rest fits e some. more_cut F item alike before n pair xs prefix rest fits.0 fits.1 e some;
  settled = λ bytes more fault are other e.
      elim (bind_err ((pair_of item before n).read bytes) joined fault (sym (pairs item before n bytes) ∙ e)) [
        | inl p ↦ pairs item before n (bytes ++ more) ∙ ap (λ r. r >>= joined) (pair.settled bytes more fault are other p)
        | inr w ↦ absurd (ok_no_err (w.0.0.0 ∷ w.0.0.1, w.0.1) fault w.2)
      ];
}

items_from-exact : {E A : Type 0} {short : E} (F : Option A → A → Type 0) (item : Option A → FormatOf E A) → EncodesAlike item → ((before : Option A) → IsExactBut short (F before) (item before)) → (n : ℕ) (before : Option A) → IsExactBut short (λ xs. FitFrom F before xs × (length xs ≡ n)) (items_from item before n)
items_from-exact F item alike exact zero before = none-exact F item before
items_from-exact {E} {A} F item alike exact (suc n) before =
    more-exact F item alike before n (followed-exact (F before) (λ x xs. FitFrom F (Some x) xs × (length xs ≡ n)) (item before) (λ x. items_from item (Some x) n) (exact before) (λ x. items_from-exact F item alike exact n (Some x)))

-- A list of so many items is exact.
pub items-exact : {E A : Type 0} {short : E} (F : Option A → A → Type 0) (item : Option A → FormatOf E A) → EncodesAlike item → ((before : Option A) → IsExactBut short (F before) (item before)) → (n : ℕ) → IsExactBut short (λ xs. FitFrom F None xs × (length xs ≡ n)) (items item n)
unfolding items
items-exact F item alike exact n = items_from-exact F item alike exact n None

-- Two encodings at the start of the same bytes are one.
pub encodings_meet : {E A : Type 0} {short : E} (F : A → Type 0) (format : FormatOf E A) → IsExactBut short F format → (x y : A) (rest others : List ℕ) → F x → F y → format.encode x ++ rest ≡ format.encode y ++ others → (x ≡ y) × (rest ≡ others)
encodings_meet F format exact x y rest others fits other_fits e =
    let one = ok_is (x, rest) (y, others) (sym (exact.only x rest fits) ∙ ap format.read e ∙ exact.only y others other_fits) in
    (ap (λ p. p.0) one, ap (λ p. p.1) one)
