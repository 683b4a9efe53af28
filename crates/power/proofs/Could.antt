-- All that could be found in an area: what holds of each of its states since its last sync.
use Rattle.std.specs.Prelude.{◌≡◌, refl, List, [], ◌∷◌, ◌++◌, ◌⊎◌}
use Rattle.std.proofs.Common.{sym, ◌∙◌, ap, subst, append-nil, inl, inr}
use Rattle.std.proofs.Math.Seq.{append_snoc}
use Rattle.basics.specs.Base.{In}
use Rattle.model.specs.Store.{Store}
use Rattle.model.specs.Step.{Step, apply, apply_all}
use Rattle.basic_laws.specs.Tests.{All, nil≢cons}
use Rattle.laws.specs.Runs.{apply_all_append, Runs}
use Rattle.cut_rule.proofs.Walk.{Through}
use Rattle.power.specs.Loss.{Area, sync_of}

-- Membership in the two parts of a list.
pub in_left_lem : {A : Type 0} (x : A) (l r : List A) → In x l → In x (l ++ r)
in_left_lem x [] r x'' = elim x'' [ ]
in_left_lem x (y ∷ l) r (inl e) = inl e
in_left_lem x (y ∷ l) r (inr e) = inr (in_left_lem x l r e)

pub in_right_lem : {A : Type 0} (x : A) (l r : List A) → In x r → In x (l ++ r)
in_right_lem x [] r i = i
in_right_lem x (y ∷ l) r i = inr (in_right_lem x l r i)

-- A step that changes nothing.
abbrev pub Idles : Step → Type 0
Idles x = (u : Store) → apply x u ≡ u

pub idles-end : (xs : List Step) (u : Store) → All Idles xs → apply_all xs u ≡ u
idles-end [] u h = refl
idles-end (x ∷ xs) u h = idles-end xs (apply x u) h.1 ∙ h.0 u

pub idles-through : (I : Store → Type 0) (xs : List Step) (u : Store) → All Idles xs → I u → Through I xs u
idles-through I [] u h i = i
idles-through I (x ∷ xs) u h i = (i, idles-through I xs (apply x u) h.1 (rw (h.0 u) i))

through-head : (I : Store → Type 0) (xs : List Step) (u : Store) → Through I xs u → I u
through-head I [] u h = h
through-head I (x ∷ xs) u h = h.0

pub through-both : (I J : Store → Type 0) (xs : List Step) (u : Store) → Through I xs u → Through J xs u → Through (λ v. I v × J v) xs u
through-both I J [] u h k = (h, k)
through-both I J (x ∷ xs) u h k = ((h.0, k.0), through-both I J xs (apply x u) h.1 k.1)

abbrev pub Could : Store → Area → (Store → Type 0) → List Step → Type 0
Could s a Q done = (kept lost : List Step) → done ≡ kept ++ lost → (In (sync_of a) lost → ⊥) → Q (apply_all kept s)

-- A list with a last element, split: at its end, or before it.
abbrev Split : List Step → Step → List Step → List Step → Type 0
Split xs x kept lost = ((kept ≡ xs ++ x ∷ []) × (lost ≡ [])) ⊎ ((r : List Step) × (xs ≡ kept ++ r) × (lost ≡ r ++ x ∷ []))

split-last : (xs : List Step) (x : Step) (kept lost : List Step) → xs ++ x ∷ [] ≡ kept ++ lost → Split xs x kept lost
split-last [] x [] lost e = inr ([], refl, sym e)
split-last [] x (k ∷ kept) lost e = inl (go kept lost (cc))
  where
    go : (kept lost : List Step) → [] ≡ kept ++ lost → (k ∷ kept ≡ x ∷ []) × (lost ≡ [])
    go [] lost q = (ap (λ (y : Step). y ∷ []) (cc), sym q)
    go (y ∷ kept) lost q = nil≢cons q
split-last (y ∷ xs) x [] lost e = inr (y ∷ xs, refl, sym e)
split-last (y ∷ xs) x (k ∷ kept) lost e = go (split-last xs x kept lost (cc))
  where
    h : y ≡ k
    h = cc

    go : Split xs x kept lost → Split (y ∷ xs) x (k ∷ kept) lost
    go (inl p) = inl (rw (h, p.0), p.1)
    go (inr (r, q, l)) = inr (r, rw (h, q), l)

module _ (s : Store) where
  pub could_nil : (a : Area) (Q : Store → Type 0) → Q s → Could s a Q []
  could_nil a Q h [] lost e u = h
  could_nil a Q h (x ∷ kept) lost e u = nil≢cons e

  pub could_map : (a : Area) (Q P : Store → Type 0) (done : List Step) → ((u : Store) → Q u → P u) → Could s a Q done → Could s a P done
  could_map a Q P done f c kept lost e u = f (apply_all kept s) (c kept lost e u)

  pub could_both : (a : Area) (Q P : Store → Type 0) (done : List Step) → Could s a Q done → Could s a P done → Could s a (λ u. Q u × P u) done
  could_both a Q P done c d kept lost e u = (c kept lost e u, d kept lost e u)

  -- One more step: the store then is another that could be found; after a sync of the area it is the only one.
  snoc_apply : (done : List Step) (x : Step) → apply_all (done ++ x ∷ []) s ≡ apply x (apply_all done s)
  snoc_apply done x = apply_all_append done (x ∷ []) s

  pub tied : (done : List Step) (x : Step) (u : Store) → apply_all done s ≡ u → apply_all (done ++ x ∷ []) s ≡ apply x u
  tied done x u t = snoc_apply done x ∙ ap (apply x) t

  pub could_step : (a : Area) (Q : Store → Type 0) (done : List Step) (x : Step) (u : Store) → apply_all done s ≡ u → Could s a Q done → Q (apply x u) →
      Could s a Q (done ++ x ∷ [])
  could_step a Q done x u t c h kept lost e n = go (split-last done x kept lost e)
    where
      go : Split done x kept lost → Q (apply_all kept s)
      go (inl p) = rw (p.0, snoc_apply done x, t) h
      go (inr (r, q, l)) = c kept r q (λ i. n (subst (In (sync_of a)) (sym l) (in_left_lem (sync_of a) r (x ∷ []) i)))

  pub could_sync : (a : Area) (Q : Store → Type 0) (done : List Step) (u : Store) → apply_all done s ≡ u → Q (apply (sync_of a) u) →
      Could s a Q (done ++ sync_of a ∷ [])
  could_sync a Q done u t h kept lost e n = go (split-last done (sync_of a) kept lost e)
    where
      go : Split done (sync_of a) kept lost → Q (apply_all kept s)
      go (inl p) = rw (p.0, snoc_apply done (sync_of a), t) h
      go (inr (r, q, l)) = absurd (n (subst (In (sync_of a)) (sym l) (in_right_lem (sync_of a) r (sync_of a ∷ []) (inl refl))))

  -- What is known of each area, Q; of the store, J, which tells Q of it; and of the steps done, K, which is not lost.
  abbrev pub Coulds : (Area → Store → Type 0) → List Step → Type 0
  Coulds Q done = (a : Area) → Could s a (Q a) done

  abbrev pub Goes : (Area → Store → Type 0) → (Store → Type 0) → (List Step → Type 0) → List Step → Store → Type 0
  Goes Q J K done u = Coulds Q done × J u × (apply_all done s ≡ u) × K done

  pub goes-run : (Q : Area → Store → Type 0) (J : Store → Type 0) (K : List Step → Type 0) → ((v : Store) → J v → (a : Area) → Q a v) →
      ((x : List Step) (y : Step) → K x → K (x ++ y ∷ [])) → (done xs : List Step) (u : Store) → Goes Q J K done u → Through J xs u → Runs (Goes Q J K) done xs u
  goes-run Q J K at grow done [] u g h = g
  goes-run Q J K at grow done (x ∷ xs) u g h = (
    g,
    goes-run Q J K at grow (done ++ x ∷ []) xs (apply x u) (
      λ a. could_step a (Q a) done x u g.2 (g.0 a) (at (apply x u) next a),
      next,
      tied done x u g.2,
      grow done x g.3,
    ) h.1,
  )
    where
      next : J (apply x u)
      next = through-head J xs (apply x u) h.1

  -- Steps that change nothing, a sync of the area among them.
  pub idles_could : (a : Area) (Q : Store → Type 0) (done xs : List Step) (u : Store) → apply_all done s ≡ u → All Idles xs → Q u →
      In (sync_of a) xs ⊎ Could s a Q done → Could s a Q (done ++ xs)
  idles_could a Q done [] u t st h (inl i) = absurd i
  idles_could a Q done [] u t st h (inr c) = rw (append-nil done) c
  idles_could a Q done (x ∷ xs) u t st h i = rw append_snoc at (idles_could a Q (done ++ x ∷ []) xs u (tied done x u t ∙ st.0 u) st.1 h (go i))
    where
      go : In (sync_of a) (x ∷ xs) ⊎ Could s a Q done → In (sync_of a) xs ⊎ Could s a Q (done ++ x ∷ [])
      go (inl (inl e)) = inr (subst (λ (y : Step). Could s a Q (done ++ y ∷ [])) e (could_sync a Q done u t (rw e (rw (st.0 u) h))))
      go (inl (inr e)) = inl e
      go (inr c) = inr (could_step a Q done x u t c (rw (st.0 u) h))
