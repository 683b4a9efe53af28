-- 02, item 14: "One altered file must not spread." Two images that differ in the content number of one file or staging file, and their recovery, revert
-- and keep. A commit can spread a number, since it copies (SpreadExamples).
use Rattle.std.specs.Prelude.{◌≡◌, refl, ℕ, suc, [], ◌∷◌, Bool, true, false, ◌⊎◌, ◌↔◌, leb, eqb, if◌then◌else◌}
use Rattle.std.proofs.Common.{sym, ◌∙◌, ap, arith, inl, inr}
use Rattle.std.proofs.Math.Option.{Option, none, some}
use Rattle.std.proofs.lemmas.Bool.{false≢true}
use Rattle.std.proofs.Math.Dec.{eqb_refl}
use Rattle.basics.specs.Limits.{image_room, number_limit}
use Rattle.basics.specs.Order.{Name, Key}
use Rattle.basics.specs.Map.{Map, look, put, Has}
use Rattle.basics.specs.Base.{Bytes, case_option, In}
use Rattle.model.specs.Log.{Journal, journal, is_held}
use Rattle.model.specs.Store.{Store, staging_key, valid_number}
use Rattle.model.specs.Image.{encode, decode}
use Rattle.model.specs.Step.{with_tree}
use Rattle.model.specs.Plan.{recover_fault, recovered, unheld, reverted, kept, discarded_cause}
use Rattle.answers.specs.Answers.{Answer, answer, refusal, recover_store, recover, revert_store, revert, keep_store, keep, recover_cause, revert_cause}
use Rattle.basic_laws.specs.MapLaws.{Sorted, key_dec, none≢some, some_inj, look-put-same, look-put-other, sorted-put, put-put, put_same, look-all}
use Rattle.basic_laws.specs.Tests.{All, of_T, eqb-eq}
use Rattle.basic_laws.specs.ValidNames.{Valid, Restored, valid_restores}
use Rattle.laws.specs.StoreLaws.{Good, bare, bare-put, well-formed, good-names, name_dec}
use Rattle.laws.specs.EndLaws.{with_staging}
use Rattle.laws.specs.WellFormed.{accepted_exactly, recover-keeps, recovered-keeps, revert-keeps, reverted-keeps, keep-keeps, kept-keeps}
use Rattle.laws.specs.Numbers.{renumbered, renumber, put-renumbered, fault-same, recovered-renumbered, reverted-renumbered, kept-renumbered}
use Rattle.laws.specs.OnePlace.{Nowhere, OnlyAt, OnePlace, in_file, in_staging, Followed, recovered-follows, reverted-follows, kept-follows}
use Rattle.answer_laws.specs.EntryLaws.{lent-good, recover-numbers}

-- Two stores that are "equal but for the content number of one file": u is s with this number at a file that stands. A directory has no number of its
-- own, so the place has a file's name.
pub record FileAltered (s u : Store) : Type 0 where
  pub directory : Name
  pub name : Name
  pub number : ℕ
  pub is_file : name ≡ [] → ⊥
  pub stands : Has (directory, name) s.tree
  pub altered : u ≡ with_tree (put (directory, name) number s.tree) s

-- The same "of one [..] staging file".
pub record StagingAltered (s u : Store) : Type 0 where
  pub name : Name
  pub number : ℕ
  pub stands : Has (staging_key name) s.staging
  pub altered : u ≡ with_staging (put (staging_key name) number s.staging) s

abbrev pub Altered : Store → Store → Type 0
Altered s u = FileAltered s u ⊎ StagingAltered s u

-- They "differ in the content number of at most one file and in nothing else"; of at most one file or staging file.
abbrev pub AtMostOneFile : Store → Store → Type 0
AtMostOneFile s u = (s ≡ u) ⊎ FileAltered s u

abbrev pub AtMostOne : Store → Store → Type 0
AtMostOne s u = (s ≡ u) ⊎ Altered s u

-- Two answers of 0: the images of two stores that are so far apart. Either both images are read again, or neither is (for its name "..bak", Accepted).
pub record Handed (Apart : Store → Store → Type 0) (x y : Answer) : Type 0 where
  pub first : Store
  pub second : Store
  pub given : x ≡ answer 0 first
  pub other : y ≡ answer 0 second
  pub apart : Apart first second
  pub read : (decode (encode first) ≡ some first) ↔ (decode (encode second) ≡ some second)

-- "get the same number [..], and where that is 0 the [..] images differ in .."
abbrev pub Alike : (Store → Store → Type 0) → Answer → Answer → Type 0
Alike Apart x y = (x.number ≡ y.number) × (x.number ≡ 0 → Handed Apart x y)

-- "Two images that aren't given 1 and are equal but for the content number of one file or staging file", "lent equally long outputs".
abbrev pub NotSpread : (Store → Store → Type 0) → (Bytes → ℕ → Answer) → Type 0
NotSpread Apart entry =
    (b c : Bytes) (s u : Store) → decode b ≡ some s → decode c ≡ some u → Altered s u → (out : ℕ) → Alike Apart (entry b out) (entry c out)

-- A number that no store holds stands for the one that differs: both stores are one store, in which it is replaced.
unfoldable unused : ℕ
unused = suc number_limit

not_valid : valid_number unused ≡ true → ⊥
unfolding unused
not_valid e = absurd (false≢true e)

not-zero : 0 ≡ unused → ⊥
unfolding unused
not-zero e = absurd (omega arith)

abbrev replaced : ℕ → ℕ → ℕ
replaced y n = if eqb n unused then y else n

replaced-unused : (y : ℕ) → replaced y unused ≡ y
replaced-unused y = rw (of_T (eqb unused unused) (eqb_refl unused))

replaced-other : (y n : ℕ) → (n ≡ unused → ⊥) → replaced y n ≡ n
replaced-other y n h = go (eqb n unused) refl
  where
    go : (t : Bool) → eqb n unused ≡ t → (if t then y else n) ≡ n
    go true e = absurd (h (eqb-eq n unused e))
    go false e = refl

replaced-zero : (y : ℕ) → replaced y 0 ≡ 0
replaced-zero y = replaced-other y 0 not-zero

-- A map in which it does not stand; in which it stands at one place, or was put there.
fixed : (y : ℕ) (t : Map) → Sorted t → Nowhere unused t → renumbered (replaced y) t ≡ t
fixed y t s h = go t (look-all (λ k x. replaced y x ≡ x) t s (λ k x e. replaced-other y x (λ z. h k (e ∙ ap (λ (n : ℕ). some n) z))))
  where
    go : (t : Map) → All (λ n. replaced y n.1 ≡ n.1) t → renumbered (replaced y) t ≡ t
    go [] a = refl
    go (n ∷ r) a = let e = a.0 in let q = go r a.1 in λ i. (n.0, e i) ∷ q i

put-replaced : (y : ℕ) (k : Key) (t : Map) → Sorted t → Nowhere unused t → renumbered (replaced y) (put k unused t) ≡ put k y t
put-replaced y k t s h =
    put-renumbered (replaced y) (replaced-zero y) k unused t
    ∙ (let a = replaced-unused y in let b = fixed y t s h in λ i. put k (a i) (b i))

only-put : (k : Key) (t : Map) → Nowhere unused t → OnlyAt unused k (put k unused t)
only-put k t h j e = go (key_dec j k)
  where
    go : Dec (j ≡ k) → j ≡ k
    go (yes p) = p
    go (no p) = absurd (h j (sym (look-put-other k j unused t p) ∙ e))

only-replaced : (y : ℕ) (k : Key) (t : Map) → Sorted t → OnlyAt unused k t → look k t ≡ some unused → renumbered (replaced y) t ≡ put k y t
only-replaced y k t s only e =
    ap (renumbered (replaced y)) (sym (put-put k 0 unused t s ∙ put_same k unused t s e))
    ∙ put-replaced y k (put k 0 t) (sorted-put k 0 t s) (λ j l. nowhere j l (key_dec j k))
    ∙ put-put k 0 y t s
  where
    nowhere : (j : Key) → look j (put k 0 t) ≡ some unused → Dec (j ≡ k) → ⊥
    nowhere j l (yes p) = not-zero (some_inj (sym (look-put-same k 0 t) ∙ ap (λ (i : Key). look i (put k 0 t)) (sym p) ∙ l))
    nowhere j l (no p) = p (only j (sym (look-put-other k j 0 t p) ∙ l))

-- So two ways to replace it differ at one place, or nowhere.
abbrev Differ : ℕ → ℕ → Key → Map → Type 0
Differ x y k t =
    (renumbered (replaced x) t ≡ renumbered (replaced y) t)
    ⊎ (Has k (renumbered (replaced x) t) × (renumbered (replaced y) t ≡ put k y (renumbered (replaced x) t)))

two_ways : (x y : ℕ) (k : Key) (t : Map) → Sorted t → OnlyAt unused k t → Differ x y k t
two_ways x y k t s only = go (look k t) refl
  where
    away : (look k t ≡ some unused → ⊥) → renumbered (replaced x) t ≡ renumbered (replaced y) t
    away h =
        let none_of : Nowhere unused t = λ j e. h (ap (λ (i : Key). look i t) (sym (only j e)) ∙ e) in
        fixed x t s none_of ∙ sym (fixed y t s none_of)

    at : look k t ≡ some unused → Has k (renumbered (replaced x) t) × (renumbered (replaced y) t ≡ put k y (renumbered (replaced x) t))
    at e =
        let a = only-replaced x k t s only e in
        ((x, ap (look k) a ∙ look-put-same k x t), only-replaced y k t s only e ∙ sym (put-put k x y t s) ∙ ap (put k y) (sym a))

    by : (n : ℕ) → look k t ≡ some n → (b : Bool) → eqb n unused ≡ b → Differ x y k t
    by n e true p = inr (at (e ∙ ap (λ (m : ℕ). some m) (eqb-eq n unused p)))
    by n e false p =
        inl (away (λ z. false≢true (sym p ∙ ap (λ (m : ℕ). eqb m unused) (some_inj (sym e ∙ z)) ∙ of_T (eqb unused unused) (eqb_refl unused))))

    go : (q : Option ℕ) → look k t ≡ q → Differ x y k t
    go none e = inl (away (λ z. none≢some (sym e ∙ z)))
    go (some n) e = by n e (eqb n unused) refl

-- The store of which both are.
record Common (s u : Store) : Type 0 where
  store : Store
  x : ℕ
  y : ℕ
  followed : Followed unused store
  first : s ≡ renumber (replaced x) store
  second : u ≡ renumber (replaced y) store

module _ (s : Store) (g : Good Valid s) where
  free-tree : Nowhere unused s.tree
  free-tree j e = let n = g.tree.node j.0 j.1 unused e in go (name_dec j.1 []) n.zeroed n.number
    where
      go : Dec (j.1 ≡ []) → (j.1 ≡ [] → unused ≡ 0) → ((j.1 ≡ [] → ⊥) → valid_number unused ≡ true) → ⊥
      go (yes p) z v = not-zero (sym (z p))
      go (no p) z v = not_valid (v p)

  free-staging : Nowhere unused s.staging
  free-staging j e = not_valid (g.staging.node j unused e).number

  fixed-tree : (y : ℕ) → renumbered (replaced y) s.tree ≡ s.tree
  fixed-tree y = fixed y s.tree g.tree.sorted free-tree

  fixed-staging : (y : ℕ) → renumbered (replaced y) s.staging ≡ s.staging
  fixed-staging y = fixed y s.staging g.staging.sorted free-staging

  common-file : (u : Store) → FileAltered s u → Common s u
  common-file u a = record {
    store = with_tree (put k unused t) s;
    x = a.stands.0;
    y = a.number;
    followed = record {
      tree = sorted-put k unused t sorted;
      staging = g.staging.sorted;
      bare = bare s (well-formed s g);
      place = in_file k a.is_file (only-put k t free-tree) free-staging;
    };
    first = sym (same a.stands.0 ∙ ap (λ (m : Map). with_tree m s) (put_same k a.stands.0 t sorted a.stands.1));
    second = a.altered ∙ sym (same a.number);
  }
    where
      k : Key
      k = (a.directory, a.name)

      t : Map
      t = s.tree

      sorted : Sorted t
      sorted = g.tree.sorted

      same : (y : ℕ) → renumber (replaced y) (with_tree (put k unused t) s) ≡ with_tree (put k y t) s
      same y = let e = put-replaced y k t sorted free-tree in let f = fixed-staging y in λ i. record { tree = e i; staging = f i; log = s.log; open_mark = s.open_mark }

  common-staging : (u : Store) → StagingAltered s u → Common s u
  common-staging u a = record {
    store = with_staging (put k unused m) s;
    x = a.stands.0;
    y = a.number;
    followed = record {
      tree = g.tree.sorted;
      staging = sorted-put k unused m sorted;
      bare = bare-put a.name unused m (bare s (well-formed s g));
      place = in_staging a.name free-tree (only-put k m free-staging);
    };
    first = sym (same a.stands.0 ∙ ap (λ (n : Map). with_staging n s) (put_same k a.stands.0 m sorted a.stands.1));
    second = a.altered ∙ sym (same a.number);
  }
    where
      k : Key
      k = staging_key a.name

      m : Map
      m = s.staging

      sorted : Sorted m
      sorted = g.staging.sorted

      same : (y : ℕ) → renumber (replaced y) (with_staging (put k unused m) s) ≡ with_staging (put k y m) s
      same y = let e = put-replaced y k m sorted free-staging in let f = fixed-tree y in λ i. record { tree = f i; staging = e i; log = s.log; open_mark = s.open_mark }

  common : (u : Store) → Altered s u → Common s u
  common u (inl a) = common-file u a
  common u (inr a) = common-staging u a

-- What follows it holds at the end too, so the ends are at most so far apart.
ends-apart : (r : Store) → Followed unused r → (x y : ℕ) → AtMostOne (renumber (replaced x) r) (renumber (replaced y) r)
ends-apart r h x y = go h.place
  where
    in_tree : (k : Key) → (k.1 ≡ [] → ⊥) → renumbered (replaced x) r.staging ≡ renumbered (replaced y) r.staging → Differ x y k r.tree →
        AtMostOne (renumber (replaced x) r) (renumber (replaced y) r)
    in_tree k n e (inl d) = inl (λ i. record { tree = d i; staging = e i; log = r.log; open_mark = r.open_mark })
    in_tree k n e (inr d) = inr (inl record {
      directory = k.0;
      name = k.1;
      number = y;
      is_file = n;
      stands = d.0;
      altered = let p = d.1 in let q = sym e in λ i. record { tree = p i; staging = q i; log = r.log; open_mark = r.open_mark };
    })

    in_staging_lem : (f : Name) → renumbered (replaced x) r.tree ≡ renumbered (replaced y) r.tree → Differ x y (staging_key f) r.staging →
        AtMostOne (renumber (replaced x) r) (renumber (replaced y) r)
    in_staging_lem f e (inl d) = inl (λ i. record { tree = e i; staging = d i; log = r.log; open_mark = r.open_mark })
    in_staging_lem f e (inr d) = inr (inr record {
      name = f;
      number = y;
      stands = d.0;
      altered = let p = d.1 in let q = sym e in λ i. record { tree = q i; staging = p i; log = r.log; open_mark = r.open_mark };
    })

    both : (t : Map) → Sorted t → Nowhere unused t → renumbered (replaced x) t ≡ renumbered (replaced y) t
    both t s free = fixed x t s free ∙ sym (fixed y t s free)

    go : OnePlace unused r → AtMostOne (renumber (replaced x) r) (renumber (replaced y) r)
    go (in_file k n only free) = in_tree k n (both r.staging h.staging free) (two_ways x y k r.tree h.tree only)
    go (in_staging f free only) = in_staging_lem f (both r.tree h.tree free) (two_ways x y (staging_key f) r.staging h.staging only)

-- Without staging files, a file.
file-alone : (s u : Store) → s.staging ≡ [] → AtMostOne s u → AtMostOneFile s u
file-alone s u e (inl p) = inl p
file-alone s u e (inr (inl p)) = inr p
file-alone s u e (inr (inr p)) = unfold look in (none≢some (ap (look (staging_key p.name)) (sym e) ∙ p.stands.1))

-- The same names stand in both.
same-places : (s u : Store) → AtMostOne s u → (k : Key) → (Has k s.tree → Has k u.tree) × (Has k u.tree → Has k s.tree)
same-places s u (inl p) k = ((λ h. rw p at h), λ h. rw p h)
same-places s u (inr (inl a)) k = ((λ h. rw a.altered (forth h (key_dec k j))), λ h. back (rw a.altered at h) (key_dec k j))
  where
    j : Key
    j = (a.directory, a.name)

    forth : Has k s.tree → Dec (k ≡ j) → Has k (put j a.number s.tree)
    forth h (yes p) = (a.number, rw p (look-put-same j a.number s.tree))
    forth h (no p) = (h.0, look-put-other j k a.number s.tree p ∙ h.1)

    back : Has k (put j a.number s.tree) → Dec (k ≡ j) → Has k s.tree
    back h (yes p) = rw p a.stands
    back h (no p) = (h.0, sym (look-put-other j k a.number s.tree p) ∙ h.1)
same-places s u (inr (inr a)) k = ((λ h. rw a.altered h), λ h. rw a.altered at h)

read_alike : (s u : Store) → Good Restored s → Good Restored u → AtMostOne s u → (decode (encode s) ≡ some s) ↔ (decode (encode u) ≡ some u)
read_alike s u g h a =
    let p = accepted_exactly s g in
    let q = accepted_exactly u h in
    let names : (d f : Name) → (Has (d, f) s.tree → Has (d, f) u.tree) × (Has (d, f) u.tree → Has (d, f) s.tree) = λ d f. same-places s u a (d, f) in
    ((λ e. q.1 (λ d f i. p.0 e d f ((names d f).1 i))), λ e. p.1 (λ d f i. q.0 e d f ((names d f).0 i)))

-- The end of a plan of which Numbers and OnePlace speak.
record Quiet (F : Store → Store) : Type 0 where
  commutes : (φ : ℕ → ℕ) → φ 0 ≡ 0 → (s : Store) → F (renumber φ s) ≡ renumber φ (F s)
  follows : (s : Store) → Followed unused s → Followed unused (F s)
  keeps : (s : Store) → Good Valid s → Good Restored (F s)

same_log : (s u : Store) → Altered s u → s.log ≡ u.log
same_log s u (inl a) = sym (ap (λ (v : Store). v.log) a.altered)
same_log s u (inr a) = sym (ap (λ (v : Store). v.log) a.altered)

module _ (s u : Store) (g : Good Valid s) (h : Good Valid u) (a : Altered s u) where
  one : Common s u
  one = common s g u a

  module _ {F : Store → Store} (q : Quiet F) where
    first-end : F s ≡ renumber (replaced one.x) (F one.store)
    first-end = ap F one.first ∙ q.commutes (replaced one.x) (replaced-zero one.x) one.store

    second-end : F u ≡ renumber (replaced one.y) (F one.store)
    second-end = ap F one.second ∙ q.commutes (replaced one.y) (replaced-zero one.y) one.store

    at_most_one : AtMostOne (F s) (F u)
    at_most_one = rw (first-end, second-end) (ends-apart (F one.store) (q.follows one.store one.followed) one.x one.y)

    -- Where it leaves no staging file.
    at-most-one-file : ((v : Store) → Followed unused v → (F v).staging ≡ []) → AtMostOneFile (F s) (F u)
    at-most-one-file e =
        file-alone (F s) (F u) (ap (λ (v : Store). v.staging) first-end ∙ ap (renumbered (replaced one.x)) (e one.store one.followed)) at_most_one

    handed : {Apart : Store → Store → Type 0} → Apart (F s) (F u) → Handed Apart (answer 0 (F s)) (answer 0 (F u))
    handed p = record {
      first = F s;
      second = F u;
      given = refl;
      other = refl;
      apart = p;
      read = read_alike (F s) (F u) (q.keeps s g) (q.keeps u h) at_most_one;
    }

  same-fault : (view : Journal → Journal) → recover_fault (view (journal s.log)) s.tree ≡ recover_fault (view (journal u.log)) u.tree
  same-fault view =
      let w : Store = one.store in
      ap (λ (v : Store). recover_fault (view (journal v.log)) v.tree) one.first
      ∙ fault-same (replaced one.x) (replaced-zero one.x) (view (journal w.log)) w.tree
      ∙ sym (fault-same (replaced one.y) (replaced-zero one.y) (view (journal w.log)) w.tree)
      ∙ sym (ap (λ (v : Store). recover_fault (view (journal v.log)) v.tree) one.second)

-- By the ways in which the entries answer.
refused : {Apart : Store → Store → Type 0} (n : ℕ) → (n ≡ 0 → ⊥) → Alike Apart (refusal n) (refusal n)
refused n h = (refl, λ e. absurd (h e))

on_test : {Apart : Store → Store → Type 0} (t v : Bool) → t ≡ v → (n : ℕ) → (n ≡ 0 → ⊥) → (x y : Answer) → Alike Apart x y →
    Alike Apart (if t then x else refusal n) (if v then y else refusal n)
on_test {Apart} t v e n h x y a = rw e (go v)
  where
    go : (t : Bool) → Alike Apart (if t then x else refusal n) (if t then y else refusal n)
    go true = a
    go false = refused n h

fault-not-zero : (j : Journal) (t : Map) (n : ℕ) → recover_fault j t ≡ some n → n ≡ 0 → ⊥
fault-not-zero j t n e z = go (recover-numbers [] j t n e)
  where
    go : In n (11 ∷ 12 ∷ 13 ∷ []) → ⊥
    go (inl p) = omega arith
    go (inr (inl p)) = omega arith
    go (inr (inr (inl p))) = omega arith
    go (inr (inr (inr p))) = absurd p

on-fault : {Apart : Store → Store → Type 0} (j : Journal) (t : Map) (p : Option ℕ) (x y : Answer) → recover_fault j t ≡ p → Handed Apart x y → x.number ≡ y.number →
    Alike Apart (case_option (recover_fault j t) x refusal) (case_option p y refusal)
on-fault {Apart} j t p x y e h m = rw e (go p e)
  where
    go : (q : Option ℕ) → recover_fault j t ≡ q → Alike Apart (case_option q x refusal) (case_option q y refusal)
    go none f = (m, λ z. h)
    go (some n) f = refused n (fault-not-zero j t n f)

recovery-quiet : Quiet recovered
recovery-quiet = record { commutes = recovered-renumbered; follows = λ s h. (recovered-follows unused s h).0; keeps = λ s g. recovered-keeps s (recover-keeps s g) }

revert-quiet : Quiet reverted
revert-quiet = record { commutes = reverted-renumbered; follows = λ s h. (reverted-follows unused s h).0; keeps = λ s g. reverted-keeps s (revert-keeps s g) }

keep-quiet : Quiet kept
keep-quiet = record {
  commutes = kept-renumbered;
  follows = kept-follows unused;
  keeps = λ s g. good-names (kept s) (λ d f i. (valid_restores.kept d, valid_restores.kept f)) (kept-keeps s (keep-keeps s g));
}

-- Recovery; "Revert has the same property."
pub recover-not_spread : NotSpread AtMostOneFile recover
unfolding recover recover_store
recover-not_spread b c s u d e a out =
    let g = lent-good b s d in
    let h = lent-good c u e in
    let p = at-most-one-file s u g h a recovery-quiet (λ v k. (recovered-follows unused v k).1) in
    rw (d, e) (on_test (leb image_room out) (leb image_room out) refl 2 (λ z. omega arith) _ _
    (on-fault (journal s.log) s.tree _ _ _ (same-fault s u g h a (λ j. j)) (handed s u g h a recovery-quiet p) refl))

pub revert-not_spread : NotSpread AtMostOneFile revert
unfolding revert revert_store
revert-not_spread b c s u d e a out =
    let g = lent-good b s d in
    let h = lent-good c u e in
    let p = at-most-one-file s u g h a revert-quiet (λ v k. (reverted-follows unused v k).1) in
    rw (d, e) (on_test (leb image_room out) (leb image_room out) refl 2 (λ z. omega arith) _ _
    (on_test _ _ (ap (λ (l : Option Bytes). is_held (journal l)) (same_log s u a)) 18 (λ z. omega arith) _ _
    (on-fault (unheld (journal s.log)) s.tree _ _ _ (same-fault s u g h a unheld) (handed s u g h a revert-quiet p) refl)))

-- Keep too, which leaves the staging files: one of them may be what differs.
pub keep-not_spread : NotSpread AtMostOne keep
unfolding keep keep_store
keep-not_spread b c s u d e a out =
    let g = lent-good b s d in
    let h = lent-good c u e in
    rw (d, e) (on_test (leb image_room out) (leb image_room out) refl 2 (λ z. omega arith) _ _
    (on_test _ _ (ap (λ (l : Option Bytes). is_held (journal l)) (same_log s u a)) 18 (λ z. omega arith) _ _
    (refl, λ z. handed s u g h a keep-quiet (at_most_one s u g h a keep-quiet))))

-- 02, item 1: how the log broke that recovery discards, and revert; the same for both images.
pub same-cause : (b c : Bytes) (s u : Store) → decode b ≡ some s → decode c ≡ some u → Altered s u → (out : ℕ) → recover_cause b out ≡ recover_cause c out
unfolding recover_cause
same-cause b c s u d e a out =
    let p = (recover-not_spread b c s u d e a out).0 in
    let q : case_option (decode b) 0 (λ s. discarded_cause (journal s.log)) ≡ case_option (decode c) 0 (λ s. discarded_cause (journal s.log)) = rw (d, e, same_log s u a) in
    λ i. record { number = p i; cause = q i }

pub same-revert-cause : (b c : Bytes) (s u : Store) → decode b ≡ some s → decode c ≡ some u → Altered s u → (out : ℕ) → revert_cause b out ≡ revert_cause c out
unfolding revert_cause
same-revert-cause b c s u d e a out =
    let p = (revert-not_spread b c s u d e a out).0 in
    let q : case_option (decode b) 0 (λ s. discarded_cause (unheld (journal s.log))) ≡ case_option (decode c) 0 (λ s. discarded_cause (unheld (journal s.log)))
    = rw (d, e, same_log s u a) in
    λ i. record { number = p i; cause = q i }
