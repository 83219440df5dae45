-- Reading a list item by item: what was read and what is left to read are the whole.
use Rattle.std.proofs.Common.{◌≡◌, ℕ, suc, ◌+◌, ◌-◌, ◌<◌, ◌≤◌, List, [], ◌∷◌, ◌++◌, length, Option, Some, Result, Ok, Err, refl, sym, ap, ◌∙◌, append_assoc, append-nil, length-append, arith}
use Rattle.std.specs.List.{slice_get}
use Rattle.key_codec.specs.declared.fault.KeyFault.{KeyFault}
use Rattle.key_codec.specs.declared.fault.KeyFault.TheVariants.{Short, Kind, Range, Order, NoMemory}
use Rattle.key_codec.specs.Formats.{FormatOf, Format, ◌>>=◌, read_items}
use Rattle.key_codec.specs.Reading.{Fails}

-- the last of the items, if there is one
abbrev pub last_of : {A : Type 0} → List A → Option A
last_of xs = slice_get xs (length xs - 1)

slice_get-after : {A : Type 0} (xs : List A) (x : A) → slice_get (xs ++ x ∷ []) (length xs) ≡ Some x
slice_get-after [] x = refl
slice_get-after (y ∷ xs) x = slice_get-after xs x

-- The last of the items is the one that was appended.
pub last_of-append : {A : Type 0} (xs : List A) (x : A) → last_of (xs ++ x ∷ []) ≡ Some x
last_of-append xs x =
    let place : length (xs ++ x ∷ []) - 1 ≡ length xs = omega (arith, length-append xs (x ∷ [])) in
    rw place (slice_get-after xs x)

-- What the code takes for the last of the items is that.
pub last_of-slice : {A : Type 0} (last : Option A) (slice xs : List A) → last ≡ slice_get slice (length slice - 1) → slice ≡ xs → last ≡ last_of xs
last_of-slice last slice xs e same = e ∙ ap last_of same

-- what is read, after items that were read before
abbrev pub with_prefix : {E A : Type 0} → List A → Result (List A × List ℕ) E → Result (List A × List ℕ) E
with_prefix prefix read = read >>= λ x. Ok (prefix ++ x.0, x.1)

-- The items so far and those to come, read off the rest, are what was to be read.
abbrev pub IsReadTo : {E A : Type 0} → (Option A → FormatOf E A) → List A → ℕ → List ℕ → Result (List A × List ℕ) E → Type 0
IsReadTo item prefix left rest whole = with_prefix prefix (read_items item (last_of prefix) left rest) ≡ whole

regroup : {E A : Type 0} (prefix : List A) (x : A) (read : Result (List A × List ℕ) E) → with_prefix prefix (read >>= λ xs. Ok (x ∷ xs.0, xs.1)) ≡ with_prefix (prefix ++ x ∷ []) read
regroup prefix x (Ok xs) = ap (λ y. Ok (y, xs.1)) (sym (append_assoc prefix (x ∷ []) xs.0))
regroup prefix x (Err fault) = refl

-- One more item was read.
pub goes_on : {E A : Type 0} (item : Option A → FormatOf E A) (prefix : List A) (count i : ℕ) (rest after : List ℕ) (x : A) (whole : Result (List A × List ℕ) E) → i < count
    → (item (last_of prefix)).read rest ≡ Ok (x, after) → IsReadTo item prefix (count - i) rest whole → IsReadTo item (prefix ++ x ∷ []) (count - (i + 1)) after whole
goes_on item prefix count i rest after x whole lt read so_far =
    let k : count - i ≡ suc (count - (i + 1)) = omega arith in
    let one : with_prefix prefix (read_items item (last_of prefix) (count - i) rest) ≡ with_prefix (prefix ++ x ∷ []) (read_items item (Some x) (count - (i + 1)) after) = rw (k, read) (regroup prefix x (read_items item (Some x) (count - (i + 1)) after)) in
    rw last_of-append (sym one ∙ so_far)

-- Where the next item isn't read, the whole isn't, for the same fault.
pub stops : {E A : Type 0} (fault : E) (item : Option A → FormatOf E A) (prefix : List A) (count i : ℕ) (rest : List ℕ) (whole : Result (List A × List ℕ) E) → i < count
    → (item (last_of prefix)).read rest ≡ Err fault → IsReadTo item prefix (count - i) rest whole → whole ≡ Err fault
stops fault item prefix count i rest whole lt read so_far =
    let k : count - i ≡ suc (count - (i + 1)) = omega arith in
    let one : with_prefix prefix (read_items item (last_of prefix) (count - i) rest) ≡ Err fault = rw (k, read) refl in
    sym so_far ∙ one

-- The next item isn't read.
pub ends : {A : Type 0} (fault : KeyFault) (item : Option A → Format A) (prefix : List A) (count i : ℕ) (rest : List ℕ) (whole : Result (List A × List ℕ) KeyFault) → i < count
    → Fails fault ((item (last_of prefix)).read rest) → IsReadTo item prefix (count - i) rest whole → Fails fault whole
ends Short item prefix count i rest whole lt read so_far = stops Short item prefix count i rest whole lt read so_far
ends (Kind kind) item prefix count i rest whole lt read so_far = stops (Kind kind) item prefix count i rest whole lt read so_far
ends (Range field) item prefix count i rest whole lt read so_far = stops (Range field) item prefix count i rest whole lt read so_far
ends Order item prefix count i rest whole lt read so_far = stops Order item prefix count i rest whole lt read so_far
ends NoMemory item prefix count i rest whole lt read so_far = tt

-- All items were read.
pub is_done : {E A : Type 0} (item : Option A → FormatOf E A) (prefix : List A) (count i : ℕ) (rest : List ℕ) (whole : Result (List A × List ℕ) E) → count ≤ i → IsReadTo item prefix (count - i) rest whole → whole ≡ Ok (prefix, rest)
is_done item prefix count i rest whole le so_far =
    let k : count - i ≡ 0 = omega arith in
    let one : with_prefix prefix (read_items item (last_of prefix) (count - i) rest) ≡ Ok (prefix, rest) = rw k (ap (λ xs. Ok (xs, rest)) (append-nil prefix)) in
    sym so_far ∙ one
