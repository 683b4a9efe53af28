-- The bytes that an entry lends to the store's methods: the image stands in front, the given names behind it.
use mathlib.Core.Path.{◌≡◌, refl, sym, ap, subst, ◌∙◌}
use Rattle.std.specs.Prelude.{Option, None, Some}
use mathlib.Core.List.{◌++◌}
use Prim.Native.Nat.{ℕ, ◌+◌, ◌≤◌}
use native.Mathlib.Omega.{arith}
use lib.ListN.{length, take, drop, take-append-drop}
use lib.Seq.{take_at, take-take, take-length}
use Rattle.basics.specs.Limits.{image_room, name_limit}
use Rattle.basics.specs.Order.{Name}
use Rattle.basics.specs.Base.{Bytes}
use Rattle.model.specs.Store as model
use Rattle.basic_laws.specs.ValidNames.{Valid}
use Rattle.laws.specs.StoreLaws.{Good}
use Rattle.field.specs.Writing.{written}
use Rattle.field.proofs.Written.{written-front, length-written}
use Rattle.spans.specs.Spans.{Given}
use Rattle.spans.specs.declared.NameRef.{NameRef}
use Rattle.spans.proofs.Prefix.{prefix_sound, prefix_name}
use Rattle.store.specs.Stores.{store_of, SoundStore}
use Rattle.store.specs.declared.Store.{Store}
use Rattle.store.proofs.Prefix.{same_store, prefix_store}
use Rattle.steps.specs.Steps.{Within}
use Rattle.steps.proofs.Room.{of-good}
use Rattle.local_storage.specs.Recording.{Ready}
use Rattle.lend.specs.Lending.{Lends}
use Rattle.lend.specs.declared.Named.{Named}
use Rattle.handover.specs.Opening.{Held}
use Rattle.recording.specs.Buffers.{Roomy}

-- A buffer of n bytes.
pub has_room : {image src : Bytes} {n : ℕ} → n ≡ length src → length image + 192 ≤ n → n ≤ 0xFFFF → Roomy image src
has_room e h k = record { room = omega arith; short = omega arith }

-- Bytes that begin with the image; spans can point everywhere in them.
pub record Begins (image src : Bytes) : Type 0 where
  pub front : take (length image) src ≡ image
  pub short : length src ≤ 0xFFFF

-- The names that were lent so far end at `end`.
pub record Lent (image src : Bytes) (end : ℕ) : Type 0 where
  pub begins : Begins image src
  pub room : length image + 192 ≤ length src
  pub behind : length image ≤ end

module _ {image : Bytes} where
  -- The image itself; the image copied to the front; a name lent behind.
  pub alone : length image ≤ image_room → Begins image image
  alone h = record { front = take-length image; short = omega arith }

  pub copied : {src out : Bytes} → Roomy image out → src ≡ written 0 image out → Lent image src (length image)
  copied {src} {out} h w =
      let e = ap length w ∙ length-written 0 image out in
      let f = written-front image out (omega (arith, h.room)) in
      record {
        begins = record { front = ap (take (length image)) (w ∙ f) ∙ take_at image (drop (length image) out) (length image) refl; short = let s = h.short in omega arith };
        room = let r = h.room in omega arith;
        behind = omega arith;
      }

  pub lent-next : {src next : Bytes} {end : ℕ} {n : Name} {r : Named} → Lent image src end → Lends end n src next r → Lent image next r.end
  lent-next {src} {next} {end} {r = r} l w =
      let e = w.size in
      record {
        begins = record {
          front = sym (take-take (length image) end next l.behind) ∙ ap (take (length image)) w.front ∙ take-take (length image) end src l.behind ∙ l.begins.front;
          short = let s = l.begins.short in omega arith;
        };
        room = let r = l.room in omega arith;
        behind = let b = l.behind in let s = w.starts in omega arith;
      }

  module _ {src : Bytes} (b : Begins image src) {s : Store} (h : Held image s) where
    joined : image ++ drop (length image) src ≡ src
    joined = ap (λ (p : Bytes). p ++ drop (length image) src) (sym b.front) ∙ take-append-drop (length image) src

    -- The store that the image holds, seen in the lent bytes.
    pub lent-sound : SoundStore src s
    lent-sound = subst (λ (p : Bytes). SoundStore p s) joined (prefix_store (drop (length image) src) h.sound)

    pub lent_same : store_of src s ≡ store_of image s
    lent_same = ap (λ (p : Bytes). store_of p s) (sym joined) ∙ same_store (drop (length image) src) h.sound

    pub lent-ready : Ready src s
    lent-ready = record { sound = lent-sound; readable = record { log = lent-sound.log; plain = h.plain; short = b.short } }

    pub lent-within : Within (store_of src s).tree
    lent-within = of-good (subst (λ (m : model.Store). Good Valid m) (sym lent_same) h.well)

-- There is room for one name more.
pub lend_room : {image src : Bytes} {end : ℕ} → Lent image src end → end ≤ length image + 128 → (end + name_limit ≤ length src) × (length src ≤ 0xFFFF)
lend_room l h = (let z = l.room in omega arith, l.begins.short)

-- A tested name that stands before `end`, if it is valid.
pub record Below (src : Bytes) (end : ℕ) (r : Option NameRef) (n : Name) : Type 0 where
  pub given : Given (take end src) r n

-- One that was lent; the same when another was lent behind it; it stands in all of the bytes.
pub below : {src next : Bytes} {at : ℕ} {n : Name} {r : Named} → Lends at n src next r → Below next r.end r.name n
below l = record { given = l.names }

pub still : {src next : Bytes} {end at : ℕ} {r : Option NameRef} {n m : Name} {q : Named} → Below src end r n → end ≤ at → Lends at m src next q → Below next end r n
still {src} {next} {end} {at} {r} {n} w h l = record {
  given = subst (λ (p : Bytes). Given p r n) (sym (take-take end at src h) ∙ ap (take end) (sym l.front) ∙ take-take end at next h) w.given;
}

whole-given : (front back : Bytes) (r : Option NameRef) (n : Name) → Given front r n → Given (front ++ back) r n
whole-given front back None n g = g
whole-given front back (Some r) n g = (g.0, record { sound = prefix_sound back g.1.sound; same = prefix_name back g.1.sound ∙ g.1.same })

pub stands : {src : Bytes} {end : ℕ} {r : Option NameRef} {n : Name} → Below src end r n → Given src r n
stands {src} {end} {r} {n} w = subst (λ (p : Bytes). Given p r n) (take-append-drop end src) (whole-given (take end src) (drop end src) r n w.given)
