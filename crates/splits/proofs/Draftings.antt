-- Each turn of the draft keeps what stands.
use Rattle.std.proofs.Common.{◌≡◌, ℕ, suc, ◌+◌, ◌-◌, ◌*◌, ◌/◌, ◌%◌, ◌<◌, ◌≤◌, Bool, true, false, cond, leb, ltb, ◌≢◌, List, [], ◌∷◌, ◌++◌, length, get_or, set, replicate, Some, None, Ok, Err, Option, sym, refl, ap, ◌∙◌, subst, ⊎_elim, arith}
use Rattle.std.proofs.lemmas.List.{append_assoc, append-nil, length-append, set-set, set-get_or, get_or-set_same, get_or-set_other}
use Rattle.std.proofs.lemmas.Bool.{cond-true, cond-false, leb-true, leb-false, lt-ltb, lt-leb, le-leb, cases_order}
use Rattle.std.proofs.lemmas.Bool.Decides.{nat_tests}
use Rattle.splits.specs.Trees.{Tree, close, split, size, file, files}
use Rattle.splits.specs.Inputs.{Inputs, entries, first_input, branch_count}
use Rattle.splits.specs.Records.{kind_of, number_of, level_of, split_record}
use Rattle.splits.specs.declared.records.Record.{Record}
use Rattle.splits.specs.Plain.{Drawn, made, shows, each, node, plain, plain_from, drawn, bytes, put, places, Unsettled, drafted, area_after, settings_after, needed}
use Rattle.splits.specs.declared.cases.Case.{Case}
use Rattle.splits.specs.declared.drafted.Drafted.TheVariants.{Play}
use Rattle.splits.proofs.SplitWords.{kind_word, number_word, level_word}
use Rattle.splits.proofs.Counts.{first_low}
use Rattle.splits.proofs.Draws.{tree_of, done_size, done_files, needs_all, sub, Drawing, written, State, Drafting, trees_from, each_made, size_done, files_done, length_done, bytes_append, length_bytes, put_in, plain_closed, plain_split, here, up_shows, up_needs, node_needs}

size_pos : (t : Tree) → 0 < size t
size_pos close = omega arith
size_pos (split k ts) = omega arith

-- the next of a tree's first record is written
patched : (inp : Inputs) (t : Tree) (i at : ℕ) (xs zs : List ℕ) → length xs ≡ 8 * i → at ≡ i + size t
    → put (xs ++ (bytes (file inp t i true) ++ zs)) (8 * i + 6) (at + 1) ≡ xs ++ (bytes (file inp t i false) ++ zs)
patched inp close i at xs zs l e =
    put_in xs _ (8 * i) 6 (8 * i + 6) (at + 1) l refl
    ∙ ap (λ q. xs ++ (0 ∷ 0 ∷ 0 ∷ 0 ∷ 0 ∷ 0 ∷ (q + 1) / 256 ∷ (q + 1) % 256 ∷ zs)) e
patched inp (split k ts) i at xs zs l e =
    put_in xs _ (8 * i) 6 (8 * i + 6) (at + 1) l refl
    ∙ ap (λ q. xs ++ (kind_word inp k / 256 ∷ kind_word inp k % 256 ∷ number_word inp k / 256 ∷ number_word inp k % 256 ∷ level_word inp k / 256 ∷ level_word inp k % 256 ∷ (q + 1) / 256 ∷ (q + 1) % 256 ∷ (bytes (files inp ts (i + 1)) ++ zs))) e

-- a record is written over zeros, but for its next
record_put : (xs zs : List ℕ) (i u v w : ℕ) → length xs ≡ 8 * i
    → put (put (put (xs ++ (0 ∷ 0 ∷ 0 ∷ 0 ∷ 0 ∷ 0 ∷ 0 ∷ 0 ∷ zs)) (8 * i) u) (8 * i + 2) v) (8 * i + 4) w ≡ xs ++ (u / 256 ∷ u % 256 ∷ v / 256 ∷ v % 256 ∷ w / 256 ∷ w % 256 ∷ 0 ∷ 0 ∷ zs)
record_put xs zs i u v w l =
    ap (λ q. put (put q (8 * i + 2) v) (8 * i + 4) w) (put_in xs (0 ∷ 0 ∷ 0 ∷ 0 ∷ 0 ∷ 0 ∷ 0 ∷ 0 ∷ zs) (8 * i) 0 (8 * i) u l (omega arith))
    ∙ (ap (λ q. put q (8 * i + 4) w) (put_in xs (u / 256 ∷ u % 256 ∷ 0 ∷ 0 ∷ 0 ∷ 0 ∷ 0 ∷ 0 ∷ zs) (8 * i) 2 (8 * i + 2) v l refl)
    ∙ put_in xs (u / 256 ∷ u % 256 ∷ v / 256 ∷ v % 256 ∷ 0 ∷ 0 ∷ 0 ∷ 0 ∷ zs) (8 * i) 4 (8 * i + 4) w l refl)

-- room for one more record
eight : (n at : ℕ) → 8 * at + 8 ≤ n → n - 8 * at ≡ suc (suc (suc (suc (suc (suc (suc (suc (n - 8 * (at + 1)))))))))
eight n at h = omega arith

is_made : (x : Drawn) (t : Tree) → x ≡ made t → x ≡ made (tree_of x)
is_made x t e = e ∙ sym (ap (λ y. made (tree_of y)) e)

-- more records are needed than there is room for
pub too_small : (inp : Inputs) (n room : ℕ) (w : Drawn) → room < needed w → (Err (record {}) ≡ drafted room w) × (replicate n 0 ≡ area_after inp n room w)
too_small inp n room (made t) h = (sym (cond-false _ _ _ (lt-leb (size t) room h)), sym (cond-false _ _ _ (lt-leb (size t) room h)))
too_small inp n room (shows m c) h = (sym (cond-false _ _ _ (lt-leb m room h)), refl)

module _ (closed : List ℕ → Bool) (inp : Inputs) (c₀ : List ℕ) where
  length_written : (s : List Case) (d at : ℕ) (c : List ℕ) → Drawing closed inp c₀ d at c s → length (written closed inp c s) ≡ 4 * at
  length_written [] d at c w = omega (arith, w.1)
  length_written (o ∷ os) d at c w =
      let k = o.input in
      let p = set c k 0 in
      let g = sub closed inp p k in
      let r = length_written os k o.number p w.7 in
      let a = length-append (written closed inp p os) (kind_word inp k ∷ number_word inp k ∷ level_word inp k ∷ 0 ∷ done_files inp g o.branch (o.number + 1)) in
      let q = length_done inp g o.branch (o.number + 1) in
      omega (arith, w.6)

  still_open : (s : List Case) (d at : ℕ) (c : List ℕ) (j : ℕ) → Drawing closed inp c₀ d at c s → d ≤ j → get_or c j 0 ≡ get_or c₀ j 0
  still_open [] d at c j w h = ap (λ q. get_or q j 0) w.0
  still_open (o ∷ os) d at c j w h =
      let ne : j ≢ o.input = omega (arith, w.0) in
      sym (get_or-set_other c o.input j 0 0 ne) ∙ still_open os o.input o.number (set c o.input 0) j w.7 (omega (arith, w.0))

module _ {closed : List ℕ → Bool} {inp : Inputs} {c₀ : List ℕ} where
  -- of the same case
  pub drafting_same : {room area_size at : ℕ} {c c' area : List ℕ} {s s' : List Case} {over over' : Option ℕ} → Drafting closed inp c₀ at c s area room area_size over → c ≡ c' → s ≡ s' → over ≡ over' → Drafting closed inp c₀ at c' s' area room area_size over'
  drafting_same {room = room} {area_size = area_size} {at = at} {c = c} {c' = c'} {area = area} {s = s} {s' = s'} {over = over} w e f g =
      subst (Drafting closed inp c₀ at c' s' area room area_size) g (subst (λ x. Drafting closed inp c₀ at c' x area room area_size over) f (subst (λ x. Drafting closed inp c₀ at x s area room area_size over) e w))

  module _ {room area_size : ℕ} (fits : 8 * room ≤ area_size) where
    pub drafting_starts : (area : List ℕ) → area ≡ replicate area_size 0 → Drafting closed inp c₀ 0 c₀ [] area room area_size None
    drafting_starts area e =
        let z : area_size ≡ area_size - 8 * 0 = omega arith in
        let f = first_low inp in
        record { within = omega arith; shallow = omega arith; state = ((refl, refl, omega arith), λ _. e ∙ ap (λ q. replicate q 0) z) }

    module _ {at : ℕ} {c : List ℕ} {s : List Case} {area : List ℕ} (w : Drafting closed inp c₀ at c s area room area_size None) where
      pub drafting_close : closed c ≡ true → at < room → Drafting closed inp c₀ (at + 1) c s area room area_size (Some at)
      drafting_close h l =
          record {
            within = omega arith;
            shallow = w.shallow;
            state =
                record {
                  tree = close;
                  drawing = w.state.0;
                  is = plain_closed closed inp (entries inp - (first_input inp + length s)) (first_input inp + length s) c h;
                  ends = refl;
                  holds = w.state.1 l ∙ ap (λ q. bytes (written closed inp c s) ++ replicate q 0) (eight area_size at (omega arith));
                };
          }

      pub drafting_full : 0 < needed (plain_from closed inp (first_input inp + length s) c) → room ≤ at → room < needed (drawn closed inp c₀)
      drafting_full n l = let u = up_needs closed inp c₀ s (first_input inp + length s) at c w.state.0 in omega arith

      pub full_closed : closed c ≡ true → room ≤ at → room < needed (drawn closed inp c₀)
      full_closed h l = let n = ap needed (plain_closed closed inp (entries inp - (first_input inp + length s)) (first_input inp + length s) c h) in drafting_full (omega arith) l

      pub full_split : closed c ≡ false → first_input inp + length s < entries inp → room ≤ at → room < needed (drawn closed inp c₀)
      full_split h k l =
          let x = first_input inp + length s in
          let r = each (sub closed inp c x) (branch_count inp x) 0 in
          let n : needed (plain_from closed inp x c) ≡ 1 + needs_all r = ap needed (plain_split closed inp x c k h) ∙ node_needs closed inp c₀ x r in
          drafting_full (omega arith) l

      pub drafting_shows : closed c ≡ false → entries inp ≤ first_input inp + length s → drawn closed inp c₀ ≡ shows at c
      drafting_shows h l =
          let z : at + 0 ≡ at = omega arith in
          let x = first_input inp + length s in
          let n : entries inp - x ≡ 0 = omega arith in
          let q : plain_from closed inp x c ≡ shows 0 c = ap (λ q. plain closed inp q x c) n ∙ cond-false _ _ _ h in
          up_shows closed inp c₀ s x at c 0 c w.state.0 q ∙ ap (λ m. shows m c) z

      drafting_split_here : (area' : List ℕ) → entries inp ≤ length c → ((n : ℕ) → 0 < branch_count inp n) → Unsettled inp c₀
          → closed c ≡ false → first_input inp + length s < entries inp → at < room
          → area' ≡ put (put (put area (8 * at) (kind_word inp (first_input inp + length s))) (8 * at + 2) (number_word inp (first_input inp + length s))) (8 * at + 4) (level_word inp (first_input inp + length s))
          → Drafting closed inp c₀ (at + 1) (set c (first_input inp + length s) 1) (record { input = first_input inp + length s; branch = 0; number = at } ∷ s) area' room area_size None
      drafting_split_here area' l n z h k r q =
          let x = first_input inp + length s in
          let o : Case = record { input = x; branch = 0; number = at } in
          let u : set (set c x 1) x 0 ≡ c = set-set c x 1 0 ∙ (ap (set c x) (sym (still_open closed inp c₀ s x at c x w.state.0 (omega arith) ∙ z x (omega arith, k))) ∙ set-get_or c x 0) in
          let v : get_or (set c x 1) x 0 ≡ 1 = get_or-set_same c x 1 0 (omega arith) in
          let f : Drawing closed inp c₀ (first_input inp + suc (length s)) (at + 1) (set c x 1) (o ∷ s) =
          (omega arith, k, n x, v, subst (λ j. closed j ≡ false) (sym u) h, (λ j b. absurd (omega arith)), omega arith, subst (λ j. Drawing closed inp c₀ x at j s) (sym u) w.state.0) in
          let xs = bytes (written closed inp c s) in
          let zs : List ℕ = replicate (area_size - 8 * (at + 1)) 0 in
          let len : length xs ≡ 8 * at = let a = length_bytes (written closed inp c s) in let b = length_written closed inp c₀ s x at c w.state.0 in omega arith in
          let rw₀ : List ℕ = kind_word inp x ∷ number_word inp x ∷ level_word inp x ∷ 0 ∷ [] in
          let a₀ : area ≡ xs ++ (0 ∷ 0 ∷ 0 ∷ 0 ∷ 0 ∷ 0 ∷ 0 ∷ 0 ∷ zs) = w.state.1 r ∙ ap (λ j. xs ++ replicate j 0) (eight area_size at (omega arith)) in
          let a₁ : area' ≡ xs ++ (bytes rw₀ ++ zs) =
          q ∙ (ap (λ j. put (put (put j (8 * at) (kind_word inp x)) (8 * at + 2) (number_word inp x)) (8 * at + 4) (level_word inp x)) a₀ ∙ record_put xs zs at (kind_word inp x) (number_word inp x) (level_word inp x) len) in
          let b₁ : written closed inp (set c x 1) (o ∷ s) ≡ written closed inp c s ++ rw₀ = ap (λ j. written closed inp j s ++ rw₀) u in
          let b₂ : bytes (written closed inp (set c x 1) (o ∷ s)) ++ zs ≡ xs ++ (bytes rw₀ ++ zs) =
          ap (λ j. bytes j ++ zs) b₁ ∙ (ap (λ j. j ++ zs) (bytes_append (written closed inp c s) rw₀) ∙ append_assoc xs (bytes rw₀) zs) in
          record { within = omega arith; shallow = omega arith; state = (f, λ _. a₁ ∙ sym b₂) }

      pub drafting_split : (x : ℕ) (r : Record) (area' : List ℕ) → x ≡ first_input inp + length s → r ≡ split_record inp x
          → entries inp ≤ length c → ((n : ℕ) → 0 < branch_count inp n) → Unsettled inp c₀ → closed c ≡ false → x < entries inp → at < room
          → area' ≡ put (put (put area (8 * at) (kind_of r)) (8 * at + 2) (number_of r)) (8 * at + 4) (level_of r)
          → Drafting closed inp c₀ (at + 1) (set c x 1) (record { input = x; branch = 0; number = at } ∷ s) area' room area_size None
      drafting_split x r area' ex er l n z h k o q =
          subst (λ j. Drafting closed inp c₀ (at + 1) (set c j 1) (record { input = j; branch = 0; number = at } ∷ s) area' room area_size None) (sym ex)
          (drafting_split_here area' l n z h (subst (λ j. j < entries inp) ex k) o (q ∙ ap (λ j. put (put (put area (8 * at) (kind_of j)) (8 * at + 2) (number_of j)) (8 * at + 4) (level_of j)) (er ∙ ap (split_record inp) ex)))

    module _ {at i : ℕ} {c area : List ℕ} where
      pub drafting_before : {s : List Case} → Drafting closed inp c₀ at c s area room area_size (Some i) → i < at
      drafting_before w = omega (arith, w.state.ends, size_pos w.state.tree)

      module _ {o : Case} {y : List Case} (w : Drafting closed inp c₀ at c (o ∷ y) area room area_size (Some i)) where
        this : sub closed inp (set c o.input 0) o.input o.branch ≡ made w.state.tree
        this = here closed inp c₀ (first_input inp + suc (length y)) i c o y w.state.drawing ∙ w.state.is

        pub drafting_next : (area' : List ℕ) → entries inp ≤ length c → o.branch + 1 < branch_count inp o.input
            → area' ≡ cond (ltb at room) (put area (8 * i + 6) (at + 1)) area
            → Drafting closed inp c₀ at (set c o.input (o.branch + 1 + 1)) (record { input = o.input; branch = o.branch + 1; number = o.number } ∷ y) area' room area_size None
        drafting_next area' l b q =
            let k = o.input in
            let p = set c k 0 in
            let g = sub closed inp p k in
            let t = w.state.tree in
            let n : Case = record { input = k; branch = o.branch + 1; number = o.number } in
            let c' = set c k (o.branch + 1 + 1) in
            let w' = w.state.drawing in
            let u : p ≡ set c' k 0 = sym (set-set c k (o.branch + 1 + 1) 0) in
            let v : get_or c' k 0 ≡ o.branch + 1 + 1 = get_or-set_same c k (o.branch + 1 + 1) 0 (omega (arith, w'.1)) in
            let z : tree_of (g o.branch) ≡ t = ap tree_of this in
            let zs = ap size z in
            let f : o.branch + 1 ≡ suc o.branch = omega arith in
            let ds : done_size g (o.branch + 1) ≡ done_size g o.branch + size (tree_of (g o.branch)) = ap (done_size g) f in
            let all : (j : ℕ) → j < o.branch + 1 → g j ≡ made (tree_of (g j)) =
            λ j lt. ⊎_elim (λ eq. subst (λ x. g x ≡ made (tree_of (g x))) (sym eq) (is_made (g o.branch) t this)) (⊎_elim (λ less. w'.5 j less) (λ more. absurd (omega arith))) (cases_order j o.branch) in
            let en = w.state.ends in
            let tail = subst (λ x. (closed x ≡ false) × ((j : ℕ) → j < o.branch + 1 → sub closed inp x k j ≡ made (tree_of (sub closed inp x k j))) × (at ≡ o.number + 1 + done_size (sub closed inp x k) (o.branch + 1)) × Drawing closed inp c₀ k o.number x y) u (w'.4, all, omega (arith, w'.6), w'.7) in
            let dr : Drawing closed inp c₀ (first_input inp + suc (length y)) at c' (n ∷ y) = (w'.0, w'.1, b, v, tail.0, tail.1, tail.2, tail.3) in
            let zs' : List ℕ = replicate (area_size - 8 * at) 0 in
            let big = written closed inp p y in
            let front = written closed inp c (o ∷ y) in
            let len : length (bytes front) ≡ 8 * i = let a₁ = length_bytes front in let a₂ = length_written closed inp c₀ (o ∷ y) (first_input inp + suc (length y)) i c w' in omega arith in
            let i' : o.number + 1 + done_size g o.branch ≡ i = sym w'.6 in
            let b₁ : done_files inp g (o.branch + 1) (o.number + 1) ≡ done_files inp g o.branch (o.number + 1) ++ file inp t i false =
            ap (λ x. done_files inp g x (o.number + 1)) f ∙ (ap (λ x. done_files inp g o.branch (o.number + 1) ++ file inp x (o.number + 1 + done_size g o.branch) false) z ∙ ap (λ x. done_files inp g o.branch (o.number + 1) ++ file inp t x false) i') in
            let b₂ : written closed inp c' (n ∷ y) ≡ front ++ file inp t i false =
            ap (λ x. written closed inp x y ++ (kind_word inp k ∷ number_word inp k ∷ level_word inp k ∷ 0 ∷ done_files inp (sub closed inp x k) (o.branch + 1) (o.number + 1))) (sym u)
            ∙ (ap (λ x. big ++ (kind_word inp k ∷ number_word inp k ∷ level_word inp k ∷ 0 ∷ x)) b₁ ∙ sym (append_assoc big (kind_word inp k ∷ number_word inp k ∷ level_word inp k ∷ 0 ∷ done_files inp g o.branch (o.number + 1)) (file inp t i false))) in
            let b₃ : bytes (written closed inp c' (n ∷ y)) ++ zs' ≡ bytes front ++ (bytes (file inp t i false) ++ zs') =
            ap (λ x. bytes x ++ zs') b₂ ∙ (ap (λ x. x ++ zs') (bytes_append front (file inp t i false)) ∙ append_assoc (bytes front) (bytes (file inp t i false)) zs') in
            let a₁ : at < room → area' ≡ bytes front ++ (bytes (file inp t i false) ++ zs') =
            λ r. q ∙ (cond-true _ _ _ (lt-ltb at room r) ∙ (ap (λ x. put x (8 * i + 6) (at + 1)) w.state.holds ∙ patched inp t i at (bytes front) zs' len en)) in
            record { within = w.within; shallow = w.shallow; state = (dr, λ r. a₁ r ∙ sym b₃) }

        pub drafting_pop : branch_count inp o.input ≤ o.branch + 1 → Drafting closed inp c₀ at (set c o.input 0) y area room area_size (Some o.number)
        drafting_pop b =
            let k = o.input in
            let p = set c k 0 in
            let g = sub closed inp p k in
            let t = w.state.tree in
            let w' = w.state.drawing in
            let n = branch_count inp k in
            let dk : first_input inp + length y ≡ k = omega (arith, w'.0) in
            let z : tree_of (g o.branch) ≡ t = ap tree_of this in
            let zs = ap size z in
            let all : (j : ℕ) → 0 ≤ j → j < 0 + n → g j ≡ made (tree_of (g j)) =
            λ j lo lt. ⊎_elim (λ eq. subst (λ x. g x ≡ made (tree_of (g x))) (sym eq) (is_made (g o.branch) t this)) (⊎_elim (λ less. w'.5 j less) (λ more. absurd (omega (arith, w'.2)))) (cases_order j o.branch) in
            let en = w.state.ends in
            let nb : n ≡ o.branch + 1 = omega (arith, w'.2) in
            let ts = trees_from g n 0 in
            let sz = size_done inp g o.branch 1 n nb in
            let fd = files_done inp g o.branch 0 n (o.number + 1) nb in
            let zs' : List ℕ = replicate (area_size - 8 * at) 0 in
            let i' : o.number + 1 + done_size g o.branch ≡ i = sym w'.6 in
            let big = written closed inp p y in
            let df = done_files inp g o.branch (o.number + 1) in
            let b₁ : files inp ts (o.number + 1) ≡ df ++ file inp t i true =
            fd ∙ (ap (λ x. df ++ x) (append-nil (file inp (tree_of (g o.branch)) (o.number + 1 + done_size g o.branch) true))
            ∙ (ap (λ x. df ++ file inp x (o.number + 1 + done_size g o.branch) true) z ∙ ap (λ x. df ++ file inp t x true) i')) in
            let h₁ : bytes (written closed inp c (o ∷ y)) ++ (bytes (file inp t i true) ++ zs') ≡ bytes (big ++ (kind_word inp k ∷ number_word inp k ∷ level_word inp k ∷ 0 ∷ (df ++ file inp t i true))) ++ zs' =
            sym (append_assoc (bytes (written closed inp c (o ∷ y))) (bytes (file inp t i true)) zs')
            ∙ (ap (λ x. x ++ zs') (sym (bytes_append (written closed inp c (o ∷ y)) (file inp t i true)))
            ∙ ap (λ x. bytes x ++ zs') (append_assoc big (kind_word inp k ∷ number_word inp k ∷ level_word inp k ∷ 0 ∷ df) (file inp t i true))) in
            let h₂ : bytes (big ++ (kind_word inp k ∷ number_word inp k ∷ level_word inp k ∷ 0 ∷ (df ++ file inp t i true))) ++ zs' ≡ bytes big ++ (bytes (file inp (split k ts) o.number true) ++ zs') =
            ap (λ x. bytes (big ++ (kind_word inp k ∷ number_word inp k ∷ level_word inp k ∷ 0 ∷ x)) ++ zs') (sym b₁)
            ∙ (ap (λ x. x ++ zs') (bytes_append big (file inp (split k ts) o.number true)) ∙ append_assoc (bytes big) (bytes (file inp (split k ts) o.number true)) zs') in
            let st : State closed inp c₀ k at p y area room area_size (Some o.number) =
            record {
              tree = split k ts;
              drawing = w'.7;
              is = plain_split closed inp k p w'.1 w'.4 ∙ ap (node k) (each_made inp g n 0 all);
              ends = omega (arith, w'.6);
              holds = w.state.holds ∙ (h₁ ∙ h₂);
            } in
            record {
              within = w.within;
              shallow = omega (arith, w.shallow);
              state = subst (λ x. State closed inp c₀ x at p y area room area_size (Some o.number)) (sym dk) st;
            }

        -- on to the next branch, or out of the split
        pub drafting_turn : (last : Bool) (area' : List ℕ) → entries inp ≤ length c → last ≡ leb (branch_count inp o.input) (o.branch + 1)
            → area' ≡ cond last area (cond (ltb at room) (put area (8 * i + 6) (at + 1)) area)
            → Drafting closed inp c₀ at (set c o.input (cond last 0 (o.branch + 1 + 1))) (cond last y (record { input = o.input; branch = o.branch + 1; number = o.number } ∷ y)) area' room area_size (cond last (Some o.number) None)
        drafting_turn true area' l e q = subst (λ x. Drafting closed inp c₀ at (set c o.input 0) y x room area_size (Some o.number)) (sym q) (drafting_pop (leb-true _ _ (sym e)))
        drafting_turn false area' l e q = drafting_next area' l (leb-false _ _ (sym e)) q

-- The room that an area has.
pub places_fit : (a : List ℕ) (room : ℕ) → room ≡ places a → (8 * room ≤ length a) × (room ≤ 65535)
places_fit a room e = grind (arith, nat_tests)

pub places_same : (a b : List ℕ) → length a ≡ length b → places a ≡ places b
places_same a b e = ap (λ n. cond (ltb (n / 8) 65535) (n / 8) 65535) e

-- The three ways out.
module _ (inp : Inputs) (n p room : ℕ) (r : room ≡ p) where
  pub exit_small : (l : ℕ) (a : List ℕ) (w : Drawn) → room < needed w → l ≡ n → a ≡ replicate l 0 → (Err (record {}) ≡ drafted p w) × (a ≡ area_after inp n p w)
  exit_small l a w h e f =
      let t = too_small inp n room w h in
      (t.0 ∙ ap (λ x. drafted x w) r, f ∙ (ap (λ x. replicate x 0) e ∙ (t.1 ∙ ap (λ x. area_after inp n x w) r)))

  pub exit_play : (l at : ℕ) (a c₀ c : List ℕ) (w : Drawn) → w ≡ shows at c → at ≤ room → l ≡ n → a ≡ replicate l 0 → (Ok Play ≡ drafted p w) × (a ≡ area_after inp n p w) × (c ≡ settings_after c₀ w)
  exit_play l at a c₀ c w e h f g = (
    sym (cond-true _ _ _ (le-leb at room h)) ∙ (ap (λ x. drafted x (shows at c)) r ∙ ap (drafted p) (sym e)),
    g ∙ (ap (λ x. replicate x 0) f ∙ ap (area_after inp n p) (sym e)),
    ap (settings_after c₀) (sym e),
  )
