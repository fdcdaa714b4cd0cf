use Rattle.std.proofs.Common.{rules, ◌≡◌, ℕ, zero, suc, ◌+◌, ◌<◌, List, [], ◌∷◌, ◌++◌, length, take, get_or, append_assoc, sym, ap, ◌∙◌, refl, arith}
use Rattle.std.specs.Int.{w16, to_be_bytes}
use Rattle.worked.specs.Words.{bytes_in}
use Rattle.worked.proofs.words.add.Goals as goal

bytes_more : (ws : List ℕ) (i : ℕ) → i < length ws → bytes_in (take (i + 1) ws) ≡ bytes_in (take i ws) ++ to_be_bytes w16 (get_or ws i 0)
bytes_more [] i h = absurd (omega arith)
bytes_more (w ∷ ws) zero h = refl
bytes_more (w ∷ ws) (suc i) h =
    let e : suc i + 1 ≡ suc (i + 1) = omega arith in
    ap (λ n. bytes_in (take n (w ∷ ws))) e ∙ ap (λ bs. to_be_bytes w16 w ++ bs) (bytes_more ws i (omega arith))

pub loop-word-preserved : goal.loop-word-preserved
loop-word-preserved c =
    let ws = c.args.words.now in
    let i = c.loop-word.word-index in
    let e : c.extend_from_slice.new.self.items ≡ c.loop-word.bytes.items ++ to_be_bytes w16 (get_or ws i 0) = search rules in
    e
    ∙ ap (λ bs. bs ++ to_be_bytes w16 (get_or ws i 0)) c.loop-word.invariant
    ∙ append_assoc c.args.bytes.now.items (bytes_in (take i ws)) (to_be_bytes w16 (get_or ws i 0))
    ∙ ap (λ bs. c.args.bytes.now.items ++ bs) (sym (bytes_more ws i c.loop-word-test.true))
