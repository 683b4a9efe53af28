-- What lies in the cells after a change of them, and what the value holds then: the elements before `len`.
use Rattle.std.specs.Prelude.{◌≡◌, ℕ, suc, ◌+◌, ◌-◌, ◌≤◌, ◌<◌, List, [], ◌∷◌, ◌++◌, length, take, drop, insert, remove, slice_set}
use Rattle.std.proofs.Common.{arith, sym, ap, ◌∙◌, get_or}
use Rattle.std.proofs.Math.Seq.{take-set-lt, paste}
use Rattle.std.proofs.lemmas.List.{append_assoc, take-append-drop, take-append-le, take-take, get_or_append_left, get_or-append_right, get_or-take, get_or-drop, length-append, length-take-le, length-drop, take_all, take_at, drop_at, take_more, drop_more, set_at}
use Rattle.std.proofs.lemmas.List.Edits.{take-paste, insert-append_left, remove-append_left, length-insert, length-remove, get_or-insert_at, get_or-insert_above}

-- The first elements of one list, and those of another behind them.
module _ {T : Type 0} (front back : List T) where
  abbrev pub spliced : ℕ → List T
  spliced i = take i front ++ drop i back

  pub spliced-before : (i k : ℕ) (d : T) → i ≤ length front → k < i → get_or (spliced i) k d ≡ get_or front k d
  spliced-before i k d h lt =
      get_or_append_left (take i front) (drop i back) d k (omega (arith, length-take-le i front h)) ∙ get_or-take i front k d lt

  pub spliced-behind : (i k : ℕ) (d : T) → i ≤ length front → i ≤ k → get_or (spliced i) k d ≡ get_or back k d
  spliced-behind i k d h le =
      let e : i + (k - i) ≡ k = omega arith in
      get_or-append_right (take i front) (drop i back) i k d (length-take-le i front h) le ∙ get_or-drop i back (k - i) d ∙ ap (λ n. get_or back n d) e

  -- One more of the first list, and one more of the second.
  pub spliced_more : (i : ℕ) (y : T) → i < length front → i < length back → y ≡ get_or front i y → slice_set (spliced i) i y ≡ spliced (i + 1)
  spliced_more i y h k e =
      ap (λ q. slice_set (take i front ++ q) i y) (drop_more back i y k) ∙ set_at (take i front) (get_or back i y) (drop (i + 1) back) y i (length-take-le i front (omega arith)) ∙ sym (append_assoc (take i front) (y ∷ []) (drop (i + 1) back)) ∙ ap (λ z. (take i front ++ z ∷ []) ++ drop (i + 1) back) e ∙ ap (λ q. q ++ drop (i + 1) back) (sym (take_more front i y h))

  pub spliced_less : (i : ℕ) (y : T) → i < length front → i < length back → y ≡ get_or back i y → slice_set (spliced (i + 1)) i y ≡ spliced i
  spliced_less i y h k e =
      ap (λ q. slice_set (q ++ drop (i + 1) back) i y) (take_more front i y h) ∙ ap (λ q. slice_set q i y) (append_assoc (take i front) (get_or front i y ∷ []) (drop (i + 1) back)) ∙ set_at (take i front) (get_or front i y) (drop (i + 1) back) y i (length-take-le i front (omega arith)) ∙ ap (λ z. take i front ++ z ∷ drop (i + 1) back) e ∙ ap (λ q. take i front ++ q) (sym (drop_more back i y k))

-- An element put in, and those up to `len` moved up.
module _ {T : Type 0} (cells : List T) (index len : ℕ) (x : T) where
  abbrev pub raised : List T
  raised = spliced (insert cells index x) cells (len + 1)

module _ {T : Type 0} (cells : List T) (index len : ℕ) (x : T) (h : index ≤ len) (k : len < length cells) where
  longer : length (insert cells index x) ≡ length cells + 1
  longer = length-insert cells index x (omega arith)

  pub length-raised : length (raised cells index len x) ≡ length cells
  length-raised =
      length-append (take (len + 1) (insert cells index x)) (drop (len + 1) cells) ∙ omega (arith, length-take-le (len + 1) (insert cells index x) (omega (arith, longer)), length-drop (len + 1) cells)

  raised-front : (n : ℕ) (d : T) → n < len + 1 → get_or (raised cells index len x) n d ≡ get_or (insert cells index x) n d
  raised-front n d lt = spliced-before (insert cells index x) cells (len + 1) n d (omega (arith, longer)) lt

  pub raised_none : cells ≡ spliced cells (raised cells index len x) (len + 1)
  raised_none =
      sym (ap (λ q. take (len + 1) cells ++ q) (drop_at (take (len + 1) (insert cells index x)) (drop (len + 1) cells) (len + 1) (length-take-le (len + 1) (insert cells index x) (omega (arith, longer)))) ∙ take-append-drop (len + 1) cells)

  -- What moves up by a place.
  pub raised_next : (n : ℕ) (d : T) → index ≤ n → n < len → get_or (raised cells index len x) (n + 1) d ≡ get_or cells n d
  raised_next n d le lt = raised-front (n + 1) d (omega arith) ∙ get_or-insert_above cells index x d n le (omega arith)

  pub raised_all : slice_set (spliced cells (raised cells index len x) (index + 1)) index x ≡ raised cells index len x
  raised_all =
      let e : take index (raised cells index len x) ≡ take index cells = take-append-le index (take (len + 1) (insert cells index x)) (drop (len + 1) cells) (omega (arith, length-take-le (len + 1) (insert cells index x) (omega (arith, longer)))) ∙ take-take index (len + 1) (insert cells index x) (omega arith) ∙ take_at (take index cells) (x ∷ drop index cells) index (length-take-le index cells (omega arith)) in
      spliced_less cells (raised cells index len x) index x (omega arith) (omega (arith, length-raised)) (sym (raised-front index x (omega arith) ∙ get_or-insert_at cells index x x (omega arith))) ∙ ap (λ q. q ++ drop index (raised cells index len x)) (sym e) ∙ take-append-drop index (raised cells index len x)

-- An element taken out: nothing is moved yet.
pub remove_none : {T : Type 0} (cells : List T) (index : ℕ) → index ≤ length cells → cells ≡ spliced (remove cells index) cells index
remove_none cells index h =
    sym (ap (λ q. q ++ drop index cells) (take_at (take index cells) (drop (suc index) cells) index (length-take-le index cells h)) ∙ take-append-drop index cells)

-- What the value holds.
module _ {T : Type 0} (cells : List T) (len : ℕ) {items : List T} (e : take len cells ≡ items) (k : len ≤ length cells) where
  long : length items ≡ len
  long = sym (ap length e) ∙ length-take-le len cells k

  parts : cells ≡ items ++ drop len cells
  parts = sym (take-append-drop len cells) ∙ ap (λ q. q ++ drop len cells) e

  pub set-told : (index : ℕ) (x : T) → index < length items → take len (slice_set cells index x) ≡ slice_set items index x
  set-told index x h = take-set-lt len cells index x (omega (arith, long)) ∙ ap (λ q. slice_set q index x) e

  pub extend-told : (xs : List T) → take (len + length xs) (paste cells len xs (length xs)) ≡ items ++ xs
  extend-told xs = take-paste cells len xs (length xs) k (omega arith) ∙ ap (λ q. q ++ take (length xs) xs) e ∙ ap (λ q. items ++ q) (take_all (length xs) xs (omega arith))

  pub insert-told : (index : ℕ) (x : T) → index ≤ length items → take (len + 1) (spliced (insert cells index x) cells (len + 1)) ≡ insert items index x
  insert-told index x h =
      let n : length (insert items index x) ≡ len + 1 = length-insert items index x h ∙ omega (arith, long) in
      let f : take (len + 1) (insert cells index x) ≡ insert items index x = ap (λ q. take (len + 1) (insert q index x)) parts ∙ ap (take (len + 1)) (insert-append_left items (drop len cells) index x h) ∙ take_at (insert items index x) (drop len cells) (len + 1) n in
      take_at (take (len + 1) (insert cells index x)) (drop (len + 1) cells) (len + 1) (ap length f ∙ n) ∙ f

  pub remove-told : (index : ℕ) → index < length items → take (len - 1) (spliced (remove cells index) cells (len - 1)) ≡ remove items index
  remove-told index h =
      let n : length (remove items index) ≡ len - 1 = omega (arith, length-remove items index h, long) in
      let f : take (len - 1) (remove cells index) ≡ remove items index = ap (λ q. take (len - 1) (remove q index)) parts ∙ ap (take (len - 1)) (remove-append_left items (drop len cells) index h) ∙ take_at (remove items index) (drop len cells) (len - 1) n in
      take_at (take (len - 1) (remove cells index)) (drop (len - 1) cells) (len - 1) (ap length f ∙ n) ∙ f
