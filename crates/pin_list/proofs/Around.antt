-- What pins are around one of them: a look-up, a pin and a release go to the smaller nodes, to it, or to the greater ones.
use Rattle.std.proofs.Common.{◌≡◌, ℕ, suc, ◌+◌, ◌<◌, ◌≤◌, Bool, true, false, cond, min, Option, Some, None, is_some, List, [], ◌∷◌, ◌++◌, length, refl, sym, ap, ◌∙◌, subst, arith, length-append, Box}
use Rattle.std.specs.List.{AllByRecursion}
use Rattle.std.specs.List.Sorted.{IsStrictlySortedBy}
use Rattle.std.specs.Map.{keys_of}
use Rattle.std.specs.BTreeMap.{is_at}
use Rattle.std.specs.Cmp.{nat_cmp_is}
use Rattle.std.specs.Ordering.{nat_cmp, match_ordering, is_eq}
use Rattle.std.specs.declared.cmp.Ordering.{Ordering}
use Rattle.std.specs.declared.cmp.Ordering.TheVariants.{Less, Equal, Greater}
use Rattle.std.proofs.lemmas.Cmp.{ranked}
use Rattle.std.proofs.lemmas.Option.{none-some as none_some}
use Rattle.vol_types.specs.MapLaws.{IsMap-parts}
use Rattle.vol_types.specs.Maps.{IsMap, value_at, with_value, without}
use Rattle.std.specs.declared.alloc.Global.{Global}
use Rattle.pin_list.specs.Pins.{smaller, with_pin}
use Rattle.pin_list.specs.Trees.{pins_of, shape_of}
use Rattle.pin_list.specs.declared.tree.Fork.{Fork}

less : (x y : ℕ) → x < y → nat_cmp x y ≡ Less
less x y h = sym (nat_cmp_is x y Less h)

equal : (x : ℕ) → nat_cmp x x ≡ Equal
equal x = sym (nat_cmp_is x x Equal refl)

greater : (x y : ℕ) → y < x → nat_cmp x y ≡ Greater
greater x y h = sym (nat_cmp_is x y Greater h)

abbrev Pins : Type 0
Pins = List (ℕ × ℕ)

-- past a smaller node
pub skip_value : (node : ℕ) (e : ℕ × ℕ) (es : Pins) → e.0 < node → value_at nat_cmp node (e ∷ es) ≡ value_at nat_cmp node es
skip_value node e es lt = ap (λ o. cond (is_eq o) (Some e.1) (value_at nat_cmp node es)) (greater node e.0 lt)

skip_with : (node seq : ℕ) (e : ℕ × ℕ) (es : Pins) → e.0 < node → with_value nat_cmp node seq (e ∷ es) ≡ e ∷ with_value nat_cmp node seq es
skip_with node seq e es lt = ap (λ o. match_ordering o ((node, seq) ∷ e ∷ es) ((e.0, seq) ∷ es) (e ∷ with_value nat_cmp node seq es)) (greater node e.0 lt)

skip_without : (node : ℕ) (e : ℕ × ℕ) (es : Pins) → e.0 < node → without nat_cmp node (e ∷ es) ≡ e ∷ without nat_cmp node es
skip_without node e es lt = ap (λ o. cond (is_eq o) es (e ∷ without nat_cmp node es)) (greater node e.0 lt)

-- at the first one
pub first_value : (e : ℕ × ℕ) (es : Pins) → value_at nat_cmp e.0 (e ∷ es) ≡ Some e.1
first_value e es = ap (λ o. cond (is_eq o) (Some e.1) (value_at nat_cmp e.0 es)) (equal e.0)

first_with : (seq : ℕ) (e : ℕ × ℕ) (es : Pins) → with_value nat_cmp e.0 seq (e ∷ es) ≡ (e.0, seq) ∷ es
first_with seq e es = ap (λ o. match_ordering o ((e.0, seq) ∷ e ∷ es) ((e.0, seq) ∷ es) (e ∷ with_value nat_cmp e.0 seq es)) (equal e.0)

first_without : (e : ℕ × ℕ) (es : Pins) → without nat_cmp e.0 (e ∷ es) ≡ es
first_without e es = ap (λ o. cond (is_eq o) es (e ∷ without nat_cmp e.0 es)) (equal e.0)

pub none_rise : IsMap {K = ℕ} {X = ℕ} nat_cmp []
unfolding IsStrictlySortedBy
none_rise = tt

-- a node that is found among pins stands above one that is below them
pub above_head : (low node seq : ℕ) (es : Pins) → AllByRecursion (λ y. nat_cmp low y ≡ Less) (keys_of es) → value_at nat_cmp node es ≡ Some seq → low < node
above_head low node seq [] all is = absurd (none_some seq is)
above_head low node seq (e ∷ es) all is = choose (above_head low node seq es all.1) (nat_cmp node e.0) refl is
  where
    choose : (value_at nat_cmp node es ≡ Some seq → low < node) → (o : Ordering) → nat_cmp node e.0 ≡ o → cond (is_eq o) (Some e.1) (value_at nat_cmp node es) ≡ Some seq → low < node
    choose rest Less o_is found = rest found
    choose rest Equal o_is found = let same : node ≡ e.0 = ranked node e.0 Equal (sym o_is) in let up : low < e.0 = ranked low e.0 Less (sym all.0) in omega arith
    choose rest Greater o_is found = rest found

-- none that isn't above them is among them
pub none_above : (low node : ℕ) (es : Pins) → AllByRecursion (λ y. nat_cmp low y ≡ Less) (keys_of es) → node ≤ low → value_at nat_cmp node es ≡ None
none_above low node es all le = choose (value_at nat_cmp node es) refl
  where
    choose : (o : Option ℕ) → value_at nat_cmp node es ≡ o → value_at nat_cmp node es ≡ None
    choose None is = is
    choose (Some found) is = let up = above_head low node found es all is in absurd (omega (arith, up, le))

without_gone : (node : ℕ) (pins : Pins) → value_at nat_cmp node pins ≡ None → without nat_cmp node pins ≡ pins
without_gone node [] none = refl
without_gone node (e ∷ es) none = choose (without_gone node es) (is_at (nat_cmp node) e.0) none
  where
    choose : (value_at nat_cmp node es ≡ None → without nat_cmp node es ≡ es) → (test : Bool) → cond test (Some e.1) (value_at nat_cmp node es) ≡ None → cond test es (e ∷ without nat_cmp node es) ≡ e ∷ es
    choose rest true is = absurd (none_some e.1 (sym is))
    choose rest false is = ap (λ xs. e ∷ xs) (rest is)

middle_above : (P : ℕ → Type 0) (left : Pins) (e : ℕ × ℕ) (right : Pins) → AllByRecursion P (keys_of (left ++ e ∷ right)) → P e.0
middle_above P [] e right all = all.0
middle_above P (x ∷ left) e right all = middle_above P left e right all.1

-- The pins are those at the left of one, it, and those at its right, and their nodes rise.
pub record IsAround (pins left : Pins) (e : ℕ × ℕ) (right : Pins) : Type 0 where
  pub is : pins ≡ left ++ e ∷ right
  pub rises : IsMap nat_cmp (left ++ e ∷ right)

-- a pin at the left is below it
below : (x : ℕ × ℕ) (left : Pins) (e : ℕ × ℕ) (right : Pins) → IsMap nat_cmp (x ∷ (left ++ e ∷ right)) → x.0 < e.0
unfolding IsStrictlySortedBy
below x left e right rises = ranked x.0 e.0 Less (sym (middle_above (λ y. nat_cmp x.0 y ≡ Less) left e right rises.0))

later : (x : ℕ × ℕ) (xs : Pins) → IsMap nat_cmp (x ∷ xs) → IsMap nat_cmp xs
unfolding IsStrictlySortedBy
later x xs rises = rises.1

none_first : (node : ℕ) (e : ℕ × ℕ) (es : Pins) → IsMap nat_cmp (e ∷ es) → node < e.0 → value_at nat_cmp node (e ∷ es) ≡ None
unfolding IsStrictlySortedBy
none_first node e es rises lt = ap (λ o. cond (is_eq o) (Some e.1) (value_at nat_cmp node es)) (less node e.0 lt) ∙ none_above e.0 node es rises.0 (let le : node ≤ e.0 = omega (arith, lt) in le)

none_first_later : (node : ℕ) (e : ℕ × ℕ) (es : Pins) → IsMap nat_cmp (e ∷ es) → node < e.0 → value_at nat_cmp node es ≡ None
unfolding IsStrictlySortedBy
none_first_later node e es rises lt = none_above e.0 node es rises.0 (let le : node ≤ e.0 = omega (arith, lt) in le)

value_left : (node : ℕ) (left : Pins) (e : ℕ × ℕ) (right : Pins) → IsMap nat_cmp (left ++ e ∷ right) → node < e.0 → value_at nat_cmp node (left ++ e ∷ right) ≡ value_at nat_cmp node left
value_left node [] e right rises lt = none_first node e right rises lt
value_left node (x ∷ left) e right rises lt = ap (λ o. cond (is_at (nat_cmp node) x.0) (Some x.1) o) (value_left node left e right (later x (left ++ e ∷ right) rises) lt)

value_right : (node : ℕ) (left : Pins) (e : ℕ × ℕ) (right : Pins) → IsMap nat_cmp (left ++ e ∷ right) → e.0 < node → value_at nat_cmp node (left ++ e ∷ right) ≡ value_at nat_cmp node right
value_right node [] e right rises lt = skip_value node e right lt
value_right node (x ∷ left) e right rises lt =
    let low = below x left e right rises in skip_value node x (left ++ e ∷ right) (omega (arith, low, lt)) ∙ value_right node left e right (later x (left ++ e ∷ right) rises) lt

value_here : (left : Pins) (e : ℕ × ℕ) (right : Pins) → IsMap nat_cmp (left ++ e ∷ right) → value_at nat_cmp e.0 (left ++ e ∷ right) ≡ Some e.1
value_here [] e right rises = first_value e right
value_here (x ∷ left) e right rises = skip_value e.0 x (left ++ e ∷ right) (below x left e right rises) ∙ value_here left e right (later x (left ++ e ∷ right) rises)

with_left : (node seq : ℕ) (left : Pins) (e : ℕ × ℕ) (right : Pins) → node < e.0 → with_value nat_cmp node seq (left ++ e ∷ right) ≡ with_value nat_cmp node seq left ++ e ∷ right
with_left node seq [] e right lt = ap (λ o. match_ordering o ((node, seq) ∷ e ∷ right) ((e.0, seq) ∷ right) (e ∷ with_value nat_cmp node seq right)) (less node e.0 lt)
with_left node seq (x ∷ left) e right lt = by (nat_cmp node x.0) (with_left node seq left e right lt)
  where
    by : (o : Ordering) → with_value nat_cmp node seq (left ++ e ∷ right) ≡ with_value nat_cmp node seq left ++ e ∷ right
        → match_ordering o ((node, seq) ∷ x ∷ (left ++ e ∷ right)) ((x.0, seq) ∷ (left ++ e ∷ right)) (x ∷ with_value nat_cmp node seq (left ++ e ∷ right))
        ≡ match_ordering o ((node, seq) ∷ x ∷ left) ((x.0, seq) ∷ left) (x ∷ with_value nat_cmp node seq left) ++ e ∷ right
    by Less rest = refl
    by Equal rest = refl
    by Greater rest = ap (λ xs. x ∷ xs) rest

with_right : (node seq : ℕ) (left : Pins) (e : ℕ × ℕ) (right : Pins) → IsMap nat_cmp (left ++ e ∷ right) → e.0 < node → with_value nat_cmp node seq (left ++ e ∷ right) ≡ left ++ e ∷ with_value nat_cmp node seq right
with_right node seq [] e right rises lt = skip_with node seq e right lt
with_right node seq (x ∷ left) e right rises lt =
    let low = below x left e right rises in skip_with node seq x (left ++ e ∷ right) (omega (arith, low, lt)) ∙ ap (λ xs. x ∷ xs) (with_right node seq left e right (later x (left ++ e ∷ right) rises) lt)

with_here : (seq : ℕ) (left : Pins) (e : ℕ × ℕ) (right : Pins) → IsMap nat_cmp (left ++ e ∷ right) → with_value nat_cmp e.0 seq (left ++ e ∷ right) ≡ left ++ (e.0, seq) ∷ right
with_here seq [] e right rises = first_with seq e right
with_here seq (x ∷ left) e right rises = skip_with e.0 seq x (left ++ e ∷ right) (below x left e right rises) ∙ ap (λ xs. x ∷ xs) (with_here seq left e right (later x (left ++ e ∷ right) rises))

without_left : (node : ℕ) (left : Pins) (e : ℕ × ℕ) (right : Pins) → IsMap nat_cmp (left ++ e ∷ right) → node < e.0 → without nat_cmp node (left ++ e ∷ right) ≡ without nat_cmp node left ++ e ∷ right
without_left node [] e right rises lt = without_gone node (e ∷ right) (none_first node e right rises lt)
without_left node (x ∷ left) e right rises lt = by (is_at (nat_cmp node) x.0) (without_left node left e right (later x (left ++ e ∷ right) rises) lt)
  where
    by : (test : Bool) → without nat_cmp node (left ++ e ∷ right) ≡ without nat_cmp node left ++ e ∷ right
        → cond test (left ++ e ∷ right) (x ∷ without nat_cmp node (left ++ e ∷ right)) ≡ cond test left (x ∷ without nat_cmp node left) ++ e ∷ right
    by true rest = refl
    by false rest = ap (λ xs. x ∷ xs) rest

without_right : (node : ℕ) (left : Pins) (e : ℕ × ℕ) (right : Pins) → IsMap nat_cmp (left ++ e ∷ right) → e.0 < node → without nat_cmp node (left ++ e ∷ right) ≡ left ++ e ∷ without nat_cmp node right
without_right node [] e right rises lt = skip_without node e right lt
without_right node (x ∷ left) e right rises lt =
    let low = below x left e right rises in skip_without node x (left ++ e ∷ right) (omega (arith, low, lt)) ∙ ap (λ xs. x ∷ xs) (without_right node left e right (later x (left ++ e ∷ right) rises) lt)

without_here : (left : Pins) (e : ℕ × ℕ) (right : Pins) → IsMap nat_cmp (left ++ e ∷ right) → without nat_cmp e.0 (left ++ e ∷ right) ≡ left ++ right
without_here [] e right rises = first_without e right
without_here (x ∷ left) e right rises = skip_without e.0 x (left ++ e ∷ right) (below x left e right rises) ∙ ap (λ xs. x ∷ xs) (without_here left e right (later x (left ++ e ∷ right) rises))

-- both sides rise
pub left_rises : {pins left right : Pins} {e : ℕ × ℕ} → IsAround pins left e right → IsMap nat_cmp left
left_rises {pins} {left} {right} {e} at = (IsMap-parts nat_cmp left (e ∷ right) at.rises).0

pub right_rises : {pins left right : Pins} {e : ℕ × ℕ} → IsAround pins left e right → IsMap nat_cmp right
right_rises {pins} {left} {right} {e} at = later e right (IsMap-parts nat_cmp left (e ∷ right) at.rises).1

-- a look-up
pub looks_left : {pins left right : Pins} {e : ℕ × ℕ} (node : ℕ) → IsAround pins left e right → node < e.0 → value_at nat_cmp node pins ≡ value_at nat_cmp node left
looks_left {pins} {left} {right} {e} node at lt = ap (value_at nat_cmp node) at.is ∙ value_left node left e right at.rises lt

pub looks_right : {pins left right : Pins} {e : ℕ × ℕ} (node : ℕ) → IsAround pins left e right → e.0 < node → value_at nat_cmp node pins ≡ value_at nat_cmp node right
looks_right {pins} {left} {right} {e} node at lt = ap (value_at nat_cmp node) at.is ∙ value_right node left e right at.rises lt

pub looks_here : {pins left right : Pins} {e : ℕ × ℕ} (node : ℕ) → IsAround pins left e right → node ≡ e.0 → value_at nat_cmp node pins ≡ Some e.1
looks_here {pins} {left} {right} {e} node at same = ap (λ (n : ℕ). value_at nat_cmp n pins) same ∙ ap (value_at nat_cmp e.0) at.is ∙ value_here left e right at.rises

-- a pin
pub pins_left : {pins left right : Pins} {e : ℕ × ℕ} (node seq : ℕ) → IsAround pins left e right → node < e.0 → with_pin node seq pins ≡ with_pin node seq left ++ e ∷ right
pins_left {pins} {left} {right} {e} node seq at lt =
    ap (λ o. with_value nat_cmp node (smaller seq o) pins) (looks_left node at lt) ∙ ap (with_value nat_cmp node (smaller seq (value_at nat_cmp node left))) at.is
    ∙ with_left node (smaller seq (value_at nat_cmp node left)) left e right lt

pub pins_right : {pins left right : Pins} {e : ℕ × ℕ} (node seq : ℕ) → IsAround pins left e right → e.0 < node → with_pin node seq pins ≡ left ++ e ∷ with_pin node seq right
pins_right {pins} {left} {right} {e} node seq at lt =
    ap (λ o. with_value nat_cmp node (smaller seq o) pins) (looks_right node at lt) ∙ ap (with_value nat_cmp node (smaller seq (value_at nat_cmp node right))) at.is
    ∙ with_right node (smaller seq (value_at nat_cmp node right)) left e right at.rises lt

pub pins_here : {pins left right : Pins} {e : ℕ × ℕ} (node seq : ℕ) → IsAround pins left e right → node ≡ e.0 → with_pin node seq pins ≡ left ++ (e.0, min seq e.1) ∷ right
pins_here {pins} {left} {right} {e} node seq at same =
    ap (λ o. with_value nat_cmp node (smaller seq o) pins) (looks_here node at same) ∙ ap (λ (n : ℕ). with_value nat_cmp n (min seq e.1) pins) same
    ∙ ap (with_value nat_cmp e.0 (min seq e.1)) at.is ∙ with_here (min seq e.1) left e right at.rises

-- a release
pub leaves_left : {pins left right : Pins} {e : ℕ × ℕ} (node : ℕ) → IsAround pins left e right → node < e.0 → without nat_cmp node pins ≡ without nat_cmp node left ++ e ∷ right
leaves_left {pins} {left} {right} {e} node at lt = ap (without nat_cmp node) at.is ∙ without_left node left e right at.rises lt

pub leaves_right : {pins left right : Pins} {e : ℕ × ℕ} (node : ℕ) → IsAround pins left e right → e.0 < node → without nat_cmp node pins ≡ left ++ e ∷ without nat_cmp node right
leaves_right {pins} {left} {right} {e} node at lt = ap (without nat_cmp node) at.is ∙ without_right node left e right at.rises lt

pub leaves_here : {pins left right : Pins} {e : ℕ × ℕ} (node : ℕ) → IsAround pins left e right → node ≡ e.0 → without nat_cmp node pins ≡ left ++ right
leaves_here {pins} {left} {right} {e} node at same = ap (λ (n : ℕ). without nat_cmp n pins) same ∙ ap (without nat_cmp e.0) at.is ∙ without_here left e right at.rises

-- Both sides are shorter.
pub record IsShorter (pins left right : Pins) : Type 0 where
  pub at_left : length left < length pins
  pub at_right : length right < length pins
  pub both : length left + length right < length pins

pub shorter : {pins left right : Pins} {e : ℕ × ℕ} → IsAround pins left e right → IsShorter pins left right
shorter {pins} {left} {right} {e} at =
    let is : length pins ≡ length left + suc (length right) = ap length at.is ∙ length-append left (e ∷ right) in record { at_left = omega (arith, is); at_right = omega (arith, is); both = omega (arith, is) }

-- How many there are after a pin: one more, where the node had none.
pub count-pin : (node seq : ℕ) (pins : Pins) → IsMap nat_cmp pins → length (with_pin node seq pins) ≡ cond (is_some (value_at nat_cmp node pins)) (length pins) (length pins + 1)
count-pin node seq pins rises = by pins rises (smaller seq (value_at nat_cmp node pins))
  where
    more : (found : Bool) (n m : ℕ) → m ≡ cond found n (n + 1) → suc m ≡ cond found (suc n) (suc n + 1)
    more true n m is = ap suc is
    more false n m is = omega (arith, is)

    by : (pins : Pins) → IsMap nat_cmp pins → (value : ℕ) → length (with_value nat_cmp node value pins) ≡ cond (is_some (value_at nat_cmp node pins)) (length pins) (length pins + 1)
    by [] rises value = omega arith
    by (e ∷ es) rises value = choose (nat_cmp node e.0) refl (by es (later e es rises) value)
      where
        choose : (o : Ordering) → nat_cmp node e.0 ≡ o → length (with_value nat_cmp node value es) ≡ cond (is_some (value_at nat_cmp node es)) (length es) (length es + 1)
            → length (match_ordering o ((node, value) ∷ e ∷ es) ((e.0, value) ∷ es) (e ∷ with_value nat_cmp node value es)) ≡ cond (is_some (cond (is_eq o) (Some e.1) (value_at nat_cmp node es))) (suc (length es)) (suc (length es) + 1)
        choose Less is rest =
            let two : suc (suc (length es)) ≡ suc (length es) + 1 = omega arith in
            two ∙ ap (λ o. cond (is_some o) (suc (length es)) (suc (length es) + 1)) (sym (none_first_later node e es rises (ranked node e.0 Less (sym is))))
        choose Equal is rest = refl
        choose Greater is rest = more (is_some (value_at nat_cmp node es)) (length es) (length (with_value nat_cmp node value es)) rest

pub most-pin : (node seq : ℕ) (pins : Pins) → IsMap nat_cmp pins → length (with_pin node seq pins) ≤ length pins + 1
most-pin node seq pins rises = by (is_some (value_at nat_cmp node pins)) (count-pin node seq pins rises)
  where
    by : (found : Bool) → length (with_pin node seq pins) ≡ cond found (length pins) (length pins + 1) → length (with_pin node seq pins) ≤ length pins + 1
    by true is = omega (arith, is)
    by false is = omega (arith, is)

-- How many there were before a release: one more, where the node had one.
pub count-release : (node : ℕ) (pins : Pins) → length pins ≡ cond (is_some (value_at nat_cmp node pins)) (length (without nat_cmp node pins) + 1) (length (without nat_cmp node pins))
count-release node [] = refl
count-release node (e ∷ es) = choose (is_at (nat_cmp node) e.0) (count-release node es)
  where
    more : (found : Bool) (n m : ℕ) → m ≡ cond found (n + 1) n → suc m ≡ cond found (suc n + 1) (suc n)
    more true n m is = omega (arith, is)
    more false n m is = ap suc is

    choose : (test : Bool) → length es ≡ cond (is_some (value_at nat_cmp node es)) (length (without nat_cmp node es) + 1) (length (without nat_cmp node es))
        → suc (length es) ≡ cond (is_some (cond test (Some e.1) (value_at nat_cmp node es))) (length (cond test es (e ∷ without nat_cmp node es)) + 1) (length (cond test es (e ∷ without nat_cmp node es)))
    choose true rest = omega arith
    choose false rest = more (is_some (value_at nat_cmp node es)) (length (without nat_cmp node es)) (length es) rest

pub most-release : (node : ℕ) (pins : Pins) → length (without nat_cmp node pins) ≤ length pins
most-release node pins = by (is_some (value_at nat_cmp node pins)) (count-release node pins)
  where
    by : (found : Bool) → length pins ≡ cond found (length (without nat_cmp node pins) + 1) (length (without nat_cmp node pins)) → length (without nat_cmp node pins) ≤ length pins
    by true is = omega (arith, is)
    by false is = omega (arith, is)

-- a fork's sides and its pin, where the fork is at the top of a tree whose pins rise
pub around : {top : Option (Box Fork Global)} {fork : Box Fork Global} {whole : List (ℕ × ℕ) × ℕ} {at : Fork}
    → shape_of top ≡ whole → top ≡ Some fork → at ≡ fork.value → IsMap nat_cmp whole.0 → IsAround whole.0 at.left.0 (at.node, at.seq) at.right.0
around {top} {fork} {whole} {at} same some is rises =
    let e : whole.0 ≡ pins_of at = ap (λ (d : List (ℕ × ℕ) × ℕ). d.0) (sym same ∙ ap shape_of some) ∙ ap pins_of (sym is) in record { is = e; rises = subst (IsMap nat_cmp) e rises }

stays_right : {fork was left : Fork} {gone : List (ℕ × ℕ) × ℕ} (result : Pins) → left ≡ record was { left = gone } → was ≡ fork → result ++ (left.node, left.seq) ∷ left.right.0 ≡ result ++ (fork.node, fork.seq) ∷ fork.right.0
stays_right result rest same = ap (λ (f : Fork). result ++ (f.node, f.seq) ∷ f.right.0) rest ∙ ap (λ (f : Fork). result ++ (f.node, f.seq) ∷ f.right.0) same

stays_left : {fork was left : Fork} {gone : List (ℕ × ℕ) × ℕ} (result : Pins) → left ≡ record was { right = gone } → was ≡ fork → left.left.0 ++ (left.node, left.seq) ∷ result ≡ fork.left.0 ++ (fork.node, fork.seq) ∷ result
stays_left result rest same = ap (λ (f : Fork). f.left.0 ++ (f.node, f.seq) ∷ result) rest ∙ ap (λ (f : Fork). f.left.0 ++ (f.node, f.seq) ∷ result) same

-- What a fork's pins are once a side was taken out, changed and put back in, beside what stayed.
module _ {pins : Pins} {fork was left : Fork} {gone taken : List (ℕ × ℕ) × ℕ} {result : Pins} (node : ℕ) (at : IsAround pins fork.left.0 (fork.node, fork.seq) fork.right.0) where
  pub pinned_left : (seq : ℕ) → node < fork.node → left ≡ record was { left = gone } → was ≡ fork → taken ≡ fork.left → result ≡ with_pin node seq taken.0 → result ++ (left.node, left.seq) ∷ left.right.0 ≡ with_pin node seq pins
  pinned_left seq lt rest same took made =
      stays_right result rest same ∙ ap (λ (xs : Pins). xs ++ (fork.node, fork.seq) ∷ fork.right.0) (made ∙ ap (λ (d : List (ℕ × ℕ) × ℕ). with_pin node seq d.0) took) ∙ sym (pins_left node seq at lt)

  pub pinned_right : (seq : ℕ) → fork.node < node → left ≡ record was { right = gone } → was ≡ fork → taken ≡ fork.right → result ≡ with_pin node seq taken.0 → left.left.0 ++ (left.node, left.seq) ∷ result ≡ with_pin node seq pins
  pinned_right seq lt rest same took made =
      stays_left result rest same ∙ ap (λ (xs : Pins). fork.left.0 ++ (fork.node, fork.seq) ∷ xs) (made ∙ ap (λ (d : List (ℕ × ℕ) × ℕ). with_pin node seq d.0) took) ∙ sym (pins_right node seq at lt)

  pub released_left : node < fork.node → left ≡ record was { left = gone } → was ≡ fork → taken ≡ fork.left → result ≡ without nat_cmp node taken.0 → result ++ (left.node, left.seq) ∷ left.right.0 ≡ without nat_cmp node pins
  released_left lt rest same took made =
      stays_right result rest same ∙ ap (λ (xs : Pins). xs ++ (fork.node, fork.seq) ∷ fork.right.0) (made ∙ ap (λ (d : List (ℕ × ℕ) × ℕ). without nat_cmp node d.0) took) ∙ sym (leaves_left node at lt)

  pub released_right : fork.node < node → left ≡ record was { right = gone } → was ≡ fork → taken ≡ fork.right → result ≡ without nat_cmp node taken.0 → left.left.0 ++ (left.node, left.seq) ∷ result ≡ without nat_cmp node pins
  released_right lt rest same took made =
      stays_left result rest same ∙ ap (λ (xs : Pins). fork.left.0 ++ (fork.node, fork.seq) ∷ xs) (made ∙ ap (λ (d : List (ℕ × ℕ) × ℕ). without nat_cmp node d.0) took) ∙ sym (leaves_right node at lt)

-- and once its own pin is at a smaller number
pub pinned_here : {pins : Pins} {fork left : Fork} {low : ℕ} (node seq : ℕ) → IsAround pins fork.left.0 (fork.node, fork.seq) fork.right.0 → node ≡ fork.node → left ≡ fork → low ≡ min seq fork.seq
    → left.left.0 ++ (left.node, low) ∷ left.right.0 ≡ with_pin node seq pins
pinned_here {pins} {fork} {left} {low} node seq at same is least =
    ap (λ (f : Fork). f.left.0 ++ (f.node, low) ∷ f.right.0) is ∙ ap (λ (n : ℕ). fork.left.0 ++ (fork.node, n) ∷ fork.right.0) least ∙ sym (pins_here node seq at same)
