-- Given names that were tested each, and what is known of them where one was not given.
use mathlib.Core.Path.{◌≡◌, refl, sym}
use mathlib.Core.Bool.{Bool, true, false, ◌&&◌}
use Rattle.std.specs.Prelude.{Option, None, Some, if◌then◌else◌}
use Rattle.basics.specs.Order.{Name}
use Rattle.basics.specs.Base.{Bytes}
use Rattle.basics.specs.Name.{valid_name, lower}
use Rattle.basic_laws.specs.Tests.{and_both}
use Rattle.spans.specs.Spans.{Names, Given}
use Rattle.spans.specs.declared.NameRef.{NameRef}
use Rattle.local_storage.specs.Recording.{GivenKey, GivenWrite}
use Rattle.local_storage.proofs.Outcomes.{first-not-of-two, second-not-of-two, first-not, second-not, third-not}

-- Where each name's own test is known.
module _ (src : Bytes) where
  pub given-key : (r k : Option NameRef) (n key : Name) → Given src r n → Given src k (lower key) → GivenKey src r k n key
  given-key None k n key w u = first-not-of-two (valid_name (lower key)) w
  given-key (Some r) None n key w u = second-not-of-two (valid_name n) u
  given-key (Some r) (Some k) n key w u = (w, u)

  pub given-write : (r k f : Option NameRef) (n key file : Name) → Given src r n → Given src k (lower key) → Given src f file → GivenWrite src r k f n key file
  given-write None k f n key file w u v = first-not (valid_name (lower key)) (valid_name file) w
  given-write (Some r) None f n key file w u v = second-not (valid_name n) (valid_name file) u
  given-write (Some r) (Some k) None n key file w u v = third-not (valid_name n) (valid_name (lower key)) v
  given-write (Some r) (Some k) (Some f) n key file w u v = (w, (u, v))

-- Where one test of all the names is known: all are given, or none.
module _ (src : Bytes) (v : Bool) (r k : NameRef) (n key : Name) where
  pub told-key : v ≡ (valid_name n && valid_name (lower key)) → (v ≡ true → Names src r n) → (v ≡ true → Names src k (lower key))
      → GivenKey src (if v then Some r else None) (if v then Some k else None) n key
  told-key = go v
    where
      go : (b : Bool) → b ≡ (valid_name n && valid_name (lower key)) → (b ≡ true → Names src r n) → (b ≡ true → Names src k (lower key))
          → GivenKey src (if b then Some r else None) (if b then Some k else None) n key
      go true e w u = let p = and_both (valid_name n) (valid_name (lower key)) (sym e) in ((p.0, w refl), (p.1, u refl))
      go false e w u = sym e

  pub told-write : (f : NameRef) (file : Name) → v ≡ (valid_name n && valid_name (lower key) && valid_name file) → (v ≡ true → Names src r n) → (v ≡ true → Names src k (lower key))
      → (v ≡ true → Names src f file) → GivenWrite src (if v then Some r else None) (if v then Some k else None) (if v then Some f else None) n key file
  told-write f file = go v
    where
      go : (b : Bool) → b ≡ (valid_name n && valid_name (lower key) && valid_name file) → (b ≡ true → Names src r n) → (b ≡ true → Names src k (lower key)) → (b ≡ true → Names src f file)
          → GivenWrite src (if b then Some r else None) (if b then Some k else None) (if b then Some f else None) n key file
      go true e w u t =
          let p = and_both (valid_name n && valid_name (lower key)) (valid_name file) (sym e) in
          let q = and_both (valid_name n) (valid_name (lower key)) p.0 in
          ((q.0, w refl), ((q.1, u refl), (p.1, t refl)))
      go false e w u t = sym e

-- Where the key, or the staging name, was not given.
module _ (src : Bytes) (n key : Name) where
  pub no-key : (r : Option NameRef) → GivenKey src r None n key → (valid_name n && valid_name (lower key)) ≡ false
  no-key None w = w
  no-key (Some r) w = w

  module _ (file : Name) where
    pub no-write-key : (r f : Option NameRef) → GivenWrite src r None f n key file → (valid_name n && valid_name (lower key) && valid_name file) ≡ false
    no-write-key None f w = w
    no-write-key (Some r) f w = w

    pub no-staged : (r k : Option NameRef) → GivenWrite src r k None n key file → (valid_name n && valid_name (lower key) && valid_name file) ≡ false
    no-staged None k w = w
    no-staged (Some r) None w = w
    no-staged (Some r) (Some k) w = w
