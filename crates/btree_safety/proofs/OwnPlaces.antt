-- The places of nodes that are written and those that are taken, in one list.
use Rattle.std.proofs.Common.{◌≡◌, ℕ, suc, ◌+◌, ◌<◌, List, [], ◌∷◌, ◌++◌, length, map, get_or, Some, refl, sym, ap, subst, ◌∙◌, arith}
use Rattle.std.specs.List.{AllPairs}
use Rattle.std.specs.Prelude.{All, Contains, slice_get}
use Rattle.std.proofs.lemmas.List.{append_assoc, get_or-append-add, get_or-map, get_or_append_left, length-append, length-map}
use Rattle.vol_types.specs.declared.pointers.Place.{Place}
use Rattle.btree_safety.specs.CheckpointBtrees.{Btrees, FreshNode, own_places, with_fresh, with_last, with_written}
use Rattle.btree_safety.proofs.AllNodes.{All-left}

-- the places of a node that is written
abbrev pub places_in : FreshNode → List Place
places_in fresh = fresh.wanted.pointer.places

-- ---- lists of what is made of members

map_last : {X Y : Type 0} (g : X → Y) (xs : List X) (x : X) → map g (xs ++ x ∷ []) ≡ map g xs ++ g x ∷ []
map_last g [] x = refl
map_last g (y ∷ xs) x = ap (λ rest. g y ∷ rest) (map_last g xs x)

mapped_same : {X Y : Type 0} (g : X → Y) (xs ys : List X) → length ys ≡ length xs → ((k : ℕ) (one other : X) → slice_get xs k ≡ Some one → slice_get ys k ≡ Some other → g other ≡ g one) → map g ys ≡ map g xs
mapped_same g [] [] count same = refl
mapped_same g [] (y ∷ ys) count same = absurd (omega (arith, count))
mapped_same g (x ∷ xs) [] count same = absurd (omega (arith, count))
mapped_same g (x ∷ xs) (y ∷ ys) count same =
    ap (λ z. z ∷ map g ys) (same 0 x y refl refl) ∙ ap (λ rest. g x ∷ rest) (mapped_same g xs ys (omega (arith, count)) (λ k one other. same (suc k) one other))

unmapped : {X Y : Type 0} (P : Y → Type 0) (g : X → Y) (xs : List X) → All P (map g xs) → All (λ x. P (g x)) xs
unmapped P g xs all k d within = subst P (get_or-map g xs k d (g d) within) (all k (g d) (let same : length (map g xs) ≡ length xs = length-map xs g in omega (arith, within, same)))

-- ---- what holds of all these places

-- What holds of all holds of those of each node that is written.
pub own_fresh : (P : List Place → Type 0) (b : Btrees) → All P (own_places b) → All (λ (fresh : FreshNode). P fresh.wanted.pointer.places) b.fresh
own_fresh P b all = unmapped P places_in b.fresh (All-left P (map places_in b.fresh) b.taken all)

-- What holds of each two holds of those of two nodes that are written.
pub own_pair : (R : List Place → List Place → Type 0) (b : Btrees) → AllPairs R (own_places b) → (i j : ℕ) (d : FreshNode) → i < j → j < length b.fresh → R (places_in (get_or b.fresh i d)) (places_in (get_or b.fresh j d))
own_pair R b pairs i j d less within =
    let whole : length (own_places b) ≡ length (map places_in b.fresh) + length b.taken = length-append (map places_in b.fresh) b.taken in
    let mapped : length (map places_in b.fresh) ≡ length b.fresh = length-map b.fresh places_in in
    let at : (k : ℕ) → k < length b.fresh → get_or (own_places b) k (places_in d) ≡ places_in (get_or b.fresh k d) = λ k low.
    get_or_append_left (map places_in b.fresh) b.taken (places_in d) k (omega (arith, low, mapped)) ∙ get_or-map places_in b.fresh k d (places_in d) low in
    subst (λ (one : List Place). R one (places_in (get_or b.fresh j d))) (at i (omega (arith, less, within)))
    (subst (λ (other : List Place). R (get_or (own_places b) i (places_in d)) other) (at j within) (pairs i j (places_in d) less (omega (arith, within, whole, mapped))))

-- What holds of each two of a list holds of those behind some,
pub later_pairs : {X : Type 0} (R : X → X → Type 0) (xs ys : List X) → AllPairs R (xs ++ ys) → AllPairs R ys
later_pairs R xs ys pairs i j d less within =
    let whole : length (xs ++ ys) ≡ length xs + length ys = length-append xs ys in
    subst (λ one. R one (get_or ys j d)) (get_or-append-add xs ys i d) (subst (λ other. R (get_or (xs ++ ys) (length xs + i) d) other) (get_or-append-add xs ys j d) (pairs (length xs + i) (length xs + j) d (omega (arith, less)) (omega (arith, within, whole))))

-- and of a node that is written and places that are taken.
pub fresh_and_taken : (R : List Place → List Place → Type 0) (b : Btrees) → AllPairs R (own_places b) → (fresh : FreshNode) → Contains b.fresh fresh → (k : ℕ) (d : List Place) → k < length b.taken → R (places_in fresh) (get_or b.taken k d)
fresh_and_taken R b pairs fresh there k d within =
    let whole : length (own_places b) ≡ length (map places_in b.fresh) + length b.taken = length-append (map places_in b.fresh) b.taken in
    let mapped : length (map places_in b.fresh) ≡ length b.fresh = length-map b.fresh places_in in
    let low = there.1 in
    let first : get_or (own_places b) there.0 d ≡ places_in fresh = get_or_append_left (map places_in b.fresh) b.taken d there.0 (omega (arith, low, mapped)) ∙ get_or-map places_in b.fresh there.0 fresh d low ∙ ap places_in there.2 in
    subst (λ (one : List Place). R one (get_or b.taken k d)) first
    (subst (λ (other : List Place). R (get_or (own_places b) there.0 d) other) (get_or-append-add (map places_in b.fresh) b.taken k d) (pairs there.0 (length (map places_in b.fresh) + k) d (omega (arith, low, mapped)) (omega (arith, within, whole))))

-- ---- the same places

-- Nodes that differ in what they lack have the same places.
pub noted_places : (b : Btrees) (fresh : List FreshNode) → length fresh ≡ length b.fresh → ((k : ℕ) (one other : FreshNode) → slice_get b.fresh k ≡ Some one → slice_get fresh k ≡ Some other → places_in other ≡ places_in one) → map places_in fresh ++ b.taken ≡ own_places b
noted_places b fresh count same = ap (λ ps. ps ++ b.taken) (mapped_same places_in b.fresh fresh count same)

-- They are the same where more blocks of the last node are written,
pub last_places : (b : Btrees) (earlier : List FreshNode) (fresh : FreshNode) (written : ℕ) → b.fresh ≡ earlier ++ fresh ∷ [] → own_places (with_last earlier fresh written b) ≡ own_places b
last_places b earlier fresh written list = ap (λ ps. ps ++ b.taken) (map_last places_in earlier (with_written written fresh) ∙ sym (map_last places_in earlier fresh) ∙ ap (map places_in) (sym list))

-- and where a node is frozen for those that were taken.
pub frozen_places : (b : Btrees) (fresh : FreshNode) (taken : List (List Place)) → b.taken ≡ places_in fresh ∷ taken → own_places (with_fresh fresh taken b) ≡ own_places b
frozen_places b fresh taken list =
    ap (λ ps. ps ++ taken) (map_last places_in b.fresh fresh) ∙ append_assoc (map places_in b.fresh) (places_in fresh ∷ []) taken ∙ ap (λ ps. map places_in b.fresh ++ ps) (sym list)

-- Places that are taken come last.
pub taken_places : (b : Btrees) (more : List Place) → map places_in b.fresh ++ (b.taken ++ more ∷ []) ≡ own_places b ++ more ∷ []
taken_places b more = sym (append_assoc (map places_in b.fresh) b.taken (more ∷ []))
