-- No text of the listing program is longer than 19,113 bytes: "answer 0", at most 16 directories' lines of at most 66 bytes and at most
-- 128 files' lines of at most 141, line feeds included.
use Rattle.std.specs.Prelude.{◌≡◌, refl, Bool, true, false, [], ◌∷◌, ◌++◌, ℕ, ◌+◌, ◌*◌, ◌≤◌, length, drop, if◌then◌else◌, Some, IfSome}
use Rattle.std.specs.Prelude as std
use Rattle.std.proofs.Common.{sym, arith, length-append}
use Rattle.std.proofs.Math.Option.{Option, none, some}
use Rattle.basics.specs.Limits.{image_room}
use Rattle.basics.specs.Order.{Name}
use Rattle.basics.specs.Map.{Map}
use Rattle.basics.specs.Base.{Bytes, case_option, if_empty, flat_map}
use Rattle.model.specs.Log.{journal}
use Rattle.model.specs.Store.{Store}
use Rattle.model.specs.Image.{decode}
use Rattle.model.specs.Plan.{recover_fault, recovered}
use Rattle.answers.specs.Answers.{recover_store, recover, decimal, listing_line, listing}
use Rattle.basic_laws.specs.Tests.{nil≢cons, All}
use Rattle.basic_laws.specs.MapLaws.{look-all}
use Rattle.basic_laws.specs.ValidNames.{Naming, restored_naming}
use Rattle.laws.specs.TreeLaws.{NodeGood, size, is_file, is_dir}
use Rattle.laws.specs.StoreLaws.{Tree}
use Rattle.laws.specs.WellFormed.{recover-keeps, recovered-keeps}
use Rattle.answer_laws.specs.EntryLaws.{lent-good}
use Rattle.answer_laws.specs.DecimalLaws.{decimal-length}
use Rattle.text.specs.Writing.{Writes, in_room_lem}
use Rattle.text.proofs.Writes.{within}

abbrev pub listing_room : ℕ
listing_room = 19_113

line-length : (d f : Name) (x : ℕ) → length (listing_line ((d, f), x)) ≡ length d + 2 + if_empty f 0 (length f + 1 + length (decimal 10 x))
unfolding listing_line
line-length d [] x = omega (arith, length-append (d ++ 0x2F ∷ []) (0x0A ∷ []), length-append d (0x2F ∷ []))
line-length d (y ∷ ys) x =
    let r : Bytes = y ∷ ys ++ 0x20 ∷ decimal 10 x in
    omega (arith, length-append (d ++ 0x2F ∷ r) (0x0A ∷ []), length-append d (0x2F ∷ r), length-append (y ∷ ys) (0x20 ∷ decimal 10 x))

lines_length : {N : Name → Type 0} → Naming N → (u t : Map) → All (λ n. NodeGood N u n.0.0 n.0.1 n.1) t → length (flat_map listing_line t) ≤ 66 * size is_dir t + 141 * size is_file t
lines_length nm u [] h = omega arith
lines_length {N} nm u (n ∷ t) h = go n.0.1 (lines_length nm u t h.1) (nm.sized n.0.0 h.0.dir) h.0.name
  where
    go : (f : Name) → length (flat_map listing_line t) ≤ 66 * size is_dir t + 141 * size is_file t → (1 ≤ length n.0.0) × (length n.0.0 ≤ 64) → ((f ≡ [] → ⊥) → N f) →
        length (listing_line ((n.0.0, f), n.1) ++ flat_map listing_line t) ≤ 66 * (if_empty f 1 0 + size is_dir t) + 141 * (if_empty f 0 1 + size is_file t)
    go [] ih v p =
        let a = line-length n.0.0 [] n.1 in
        omega (arith, length-append (listing_line ((n.0.0, []), n.1)) (flat_map listing_line t))
    go (y ∷ ys) ih v p =
        let w = nm.sized (y ∷ ys) (p (λ z. nil≢cons (sym z))) in
        let a = line-length n.0.0 (y ∷ ys) n.1 in
        let b = decimal-length 10 n.1 in
        omega (arith, length-append (listing_line ((n.0.0, y ∷ ys), n.1)) (flat_map listing_line t))

tree-length : {N : Name → Type 0} → Naming N → (t : Map) → Tree N t → length (flat_map listing_line t) ≤ 19_104
tree-length {N} nm t g =
    let a = lines_length nm t t (look-all (λ k x. NodeGood N t k.0 k.1 x) t g.sorted (λ k x l. g.node k.0 k.1 x l)) in
    omega (arith, g.dirs_fit, g.files_fit)

text-length : (n : ℕ) (r : Bytes) → length (0x61 ∷ 0x6E ∷ 0x73 ∷ 0x77 ∷ 0x65 ∷ 0x72 ∷ 0x20 ∷ decimal 2 n ++ 0x0A ∷ r) ≡ 8 + length (decimal 2 n) + length r
text-length n r = omega (arith, length-append (decimal 2 n) (0x0A ∷ r))

-- Recovery answers 0 where its plan is done.
pub done-number : (b : Bytes) (s : Store) → decode b ≡ some s → recover_fault (journal s.log) s.tree ≡ none → (recover b image_room).number ≡ 0
unfolding recover recover_store
done-number b s d e = rw (d, e)

pub listing-length : (b : Bytes) → length (listing b) ≤ listing_room
unfolding listing
listing-length b = go (decode b) refl
  where
    number : ℕ
    number = (recover b image_room).number

    go : (o : Option Store) → decode b ≡ o → length (0x61 ∷ 0x6E ∷ 0x73 ∷ 0x77 ∷ 0x65 ∷ 0x72 ∷ 0x20 ∷ decimal 2 number ++ 0x0A ∷ case_option o [] (λ s. case_option (recover_fault (journal s.log) s.tree) (flat_map listing_line (recovered s).tree) (λ n. []))) ≤ listing_room
    go none d = omega (arith, text-length number [], decimal-length 2 number)
    go (some s) d = ways (recover_fault (journal s.log) s.tree) refl
      where
        ways : (f : Option ℕ) → recover_fault (journal s.log) s.tree ≡ f → length (0x61 ∷ 0x6E ∷ 0x73 ∷ 0x77 ∷ 0x65 ∷ 0x72 ∷ 0x20 ∷ decimal 2 number ++ 0x0A ∷ case_option f (flat_map listing_line (recovered s).tree) (λ n. [])) ≤ listing_room
        ways (some n) e = omega (arith, text-length number [], decimal-length 2 number)
        ways none e =
            let l : length (decimal 2 number) ≡ 1 = unfold decimal in rw (done-number b s d e) in
            omega (arith, text-length number (flat_map listing_line (recovered s).tree), tree-length restored_naming (recovered s).tree (recovered-keeps s (recover-keeps s (lent-good b s d))).tree)

-- For callers: an output of so many bytes holds the text at its front, and its bytes behind it are as they were.
pub listed-whole : (b : Bytes) {out after : Bytes} {n : std.Option ℕ} → Writes (listing b) out after n → listing_room ≤ length out → (n ≡ Some (length (listing b))) × (after ≡ listing b ++ drop (length (listing b)) out)
listed-whole b e h = in_room_lem e (omega (arith, listing-length b))

-- Never are more bytes counted than the output has.
pub listed-within : {text out after : Bytes} {n : std.Option ℕ} → Writes text out after n → IfSome n (λ k. k ≤ length after)
listed-within = within
