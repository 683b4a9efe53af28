-- Every name in a step of a plan is one component of a pathname: POSIX takes it as it stands (XBD 3, Filename; XBD 4.13).
use Rattle.std.specs.Prelude.{◌≡◌, ℕ, List, [], ◌∷◌, ◌++◌, true, drop}
use Rattle.std.proofs.Common.{sym, ◌∙◌, ap, inl, inr}
use Rattle.std.proofs.lemmas.Bool.{false≢true}
use Rattle.basics.specs.Order.{Name}
use Rattle.basics.specs.Name.{backup_extension, is_name_byte, refused_names, valid_name}
use Rattle.basics.specs.Map.{Has}
use Rattle.basics.specs.Base.{all_of}
use Rattle.model.specs.Store.{Store, staging_key}
use Rattle.model.specs.Step.{Step, rewrite_header, sync_staging, sync_log, remove_log, sync_journal, sync_collections, make_directory, rename_file, move_staged, rename_directory, copy_file, remove_file, remove_directory, remove_staging, sync_directory, apply, tag_and_names, hold_header}
use Rattle.basic_laws.specs.MapLaws.{look-put-same}
use Rattle.basic_laws.specs.Tests.{nil≢cons, All, all-of, all_imp}
use Rattle.basic_laws.specs.ValidNames.{Valid, Restored, valid-named, valid-bytes}
use Rattle.laws.specs.StoreLaws.{Good, look-move-to}
use Rattle.laws.specs.Runs.{Runs}
use Rattle.laws.specs.StepLaws.{Sound}
use Rattle.posix_laws.specs.ReadySteps.{AllReady, renamed-to}
use Rattle.posix_laws.specs.Ready.{IsName, Ready}

-- Neither empty nor "." nor "..", with neither a slash nor a null byte.
pub record Plain (n : Name) : Type 0 where
  pub is_name : IsName n
  pub not_dot : n ≡ 0x2E ∷ [] → ⊥
  pub not_dots : n ≡ 0x2E ∷ 0x2E ∷ [] → ⊥
  pub bytes : All (λ b. (b ≡ 0 → ⊥) × (b ≡ 0x2F → ⊥)) n

plain_byte : (b : ℕ) → is_name_byte b ≡ true → (b ≡ 0 → ⊥) × (b ≡ 0x2F → ⊥)
unfolding is_name_byte
plain_byte b e = ((λ p. false≢true (ap is_name_byte (sym p) ∙ e)), λ p. false≢true (ap is_name_byte (sym p) ∙ e))

valid-plain : (n : Name) → Valid n → Plain n
unfolding valid_name is_name_byte refused_names backup_extension
valid-plain n v = record {
  is_name = valid-named n v;
  not_dot = λ p. false≢true (ap valid_name (sym p) ∙ v);
  not_dots = λ p. false≢true (ap valid_name (sym p) ∙ v);
  bytes = all_imp plain_byte n (all-of is_name_byte n (valid-bytes n v));
}

-- The two names that only a restore makes have five bytes or more.
dots-plain : (n : Name) (b : ℕ) (r : Name) → n ≡ 0x2E ∷ 0x2E ∷ b ∷ r → all_of is_name_byte n ≡ true → Plain n
dots-plain n b r e h = record {
  is_name = λ p. nil≢cons (sym p ∙ e);
  not_dot = λ p. nil≢cons (ap (drop 1) (sym p ∙ e));
  not_dots = λ p. nil≢cons (ap (drop 2) (sym p ∙ e));
  bytes = all_imp plain_byte n (all-of is_name_byte n h);
}

pub restored_plain : (n : Name) → Restored n → Plain n
unfolding backup_extension is_name_byte
restored_plain n (inl v) = valid-plain n v
restored_plain n (inr (inl e)) = dots-plain n _ _ e (ap (all_of is_name_byte) e)
restored_plain n (inr (inr e)) = dots-plain n _ _ e (ap (all_of is_name_byte) e)

-- The names of a step stand before it or behind it.
names_stand : (N : Name → Type 0) → ((n : Name) → Valid n → N n) → (s : Store) (x : Step) → Good N s → Good N (apply x s) → Ready x s → All N (tag_and_names x).1
unfolding tag_and_names apply
names_stand N v s rewrite_header g h r = tt
names_stand N v s hold_header g h r = tt
names_stand N v s sync_staging g h r = tt
names_stand N v s sync_log g h r = tt
names_stand N v s remove_log g h r = tt
names_stand N v s sync_journal g h r = tt
names_stand N v s sync_collections g h r = tt
names_stand N v s (make_directory d) g h r = ((h.tree.node d [] 0 (look-put-same (d, []) 0 s.tree)).dir, tt)
names_stand N v s (rename_file d a b) g h r =
    let o = g.tree.node d a r.0.1.0 r.0.1.1 in
    let i = renamed-to d a b s r.0.1 in
    (o.dir, (o.name r.0.0, ((h.tree.node d b i.0 i.1).name r.1, tt)))
names_stand N v s (move_staged f d k) g h r =
    let i : Has (d, k) (apply (move_staged f d k) s).tree = (r.0.0, rw r.0.1 (look-put-same (d, k) r.0.0 s.tree)) in
    (v f (g.staging.node (staging_key f) r.0.0 r.0.1).name, ((g.tree.node d [] r.1.0 r.1.1).dir, ((h.tree.node d k i.0 i.1).name r.2, tt)))
names_stand N v s (rename_directory a b) g h r =
    let i : Has (b, []) (apply (rename_directory a b) s).tree = (r.0.0, look-move-to a b r.2 [] s.tree s.tree g.tree.sorted ∙ rw r.0.1) in
    ((g.tree.node a [] r.0.0 r.0.1).dir, ((h.tree.node b [] i.0 i.1).dir, tt))
names_stand N v s (copy_file a b f) g h r = let o = g.tree.node a f r.0.1.0 r.0.1.1 in (o.dir, ((g.tree.node b [] r.1.0 r.1.1).dir, (o.name r.0.0, tt)))
names_stand N v s (remove_file d f) g h r = let o = g.tree.node d f r.1.0 r.1.1 in (o.dir, (o.name r.0, tt))
names_stand N v s (remove_directory d) g h r = ((g.tree.node d [] r.0 r.1).dir, tt)
names_stand N v s (remove_staging f) g h r = (v f (g.staging.node (staging_key f) r.0 r.1).name, tt)
names_stand N v s (sync_directory d) g h r = ((g.tree.node d [] r.0 r.1).dir, tt)

runs_now : (P : List Step → Store → Type 0) (pre xs : List Step) (s : Store) → Runs P pre xs s → P pre s
runs_now P pre [] s h = h
runs_now P pre (x ∷ xs) s h = h.0

-- The names of a plan.
pub plan-names : (pre xs : List Step) (s : Store) → Runs (Sound Restored) pre xs s → AllReady xs s → All (λ x. All Plain (tag_and_names x).1) xs
plan-names pre [] s h r = tt
plan-names pre (x ∷ xs) s h r = (
  all_imp restored_plain (tag_and_names x).1 (names_stand Restored (λ n v. inl v) s x h.0.good (runs_now (Sound Restored) (pre ++ x ∷ []) xs (apply x s) h.1).good r.0),
  plan-names (pre ++ x ∷ []) xs (apply x s) h.1 r.1,
)
