-- What each way through the night comes to. No contract cites this file. Assumes nothing.
use mathlib.Core.Path.{◌≡◌, refl, sym, ap, ◌∙◌}
use mathlib.Core.Logic.{⊎_elim}
use mathlib.Core.Bool.{true, false}
use mathlib.Core.List.{List, [], ◌∷◌, ◌++◌, append_assoc}
use Prim.Native.Nat.{ℕ, ◌+◌, ◌*◌, ◌<◌, ◌≤◌}
use native.Mathlib.Omega.{arith}
use lib.ListN.{length, take, drop, length-append}
use lib.Seq.{length-take-le, take_at, drop_at}
use lib.IntN.{ℤ}
use Rattle.doubles.specs.Limits.{max_rows, max_columns}
use Rattle.doubles.proofs.Bools.{truth}
use Rattle.doubles.proofs.Tests.{not_both}
use Rattle.lu_packed.specs.Written.{written}
use Rattle.sheet_rules.specs.Sheet.{Plan, plan_of}
use Rattle.state.specs.Packed.{section}
use Rattle.night_rules.specs.Second.{second_plan}
use Rattle.night_rules.specs.Arrays.{Arrays}
use Rattle.night_rules.specs.Stage.{zeros, is_judged, Staged, stage_of, section_cells, section_into, Lends, Left, left}
use Rattle.night_rules.specs.Stage.{leaves}
use Rattle.night_rules.specs.Night.{NightPlan, second_at, handed_at, coefs_at, whole_end, first_stands, Called, called}
use Rattle.night_rules.specs.Night.{hand_out, second_part}
use Rattle.night_rules.specs.declared.Audit.{Audit}
use Rattle.night_rules.specs.declared.Audit.TheVariants.{NotRun, NotWhole, NotOpened, Judged}
use Rattle.night_rules.specs.declared.Stage.{Stage}
use Rattle.night_rules.specs.declared.NightAnswer.TheVariants.{FirstStands, Handed}
use Rattle.night_handing.specs.Handing.{stored, hand_over}
use Rattle.night_rules.proofs.Shaped.{Shaped, stage_shaped}
use Rattle.night_handing.proofs.Sections.{written_in, front_amounts, fresh_section}

module _ (a : Audit) (z w : List ℤ) where
  pub stores : is_judged a ≡ true → stored a z w ≡ written second_at z w
  unfolding stored
  stores h = rw (h, stored)

  pub stays : is_judged a ≡ false → stored a z w ≡ w
  unfolding stored
  stays h = rw (h, stored)

module _ (f g : Stage) (x z w : List ℤ) (a : Arrays) {u v : List ℤ} (e : u ≡ stored g.audit z w) where
  pub first_handed : first_stands g.audit ≡ true → v ≡ written handed_at x u
      → called (FirstStands f g) a v ≡ hand_over f g x z a w
  unfolding hand_over
  first_handed h q = rw (q, e, h, hand_over)

  pub second_handed : first_stands g.audit ≡ false → v ≡ written handed_at (take max_columns z) u
      → called (Handed f g) a v ≡ hand_over f g x z a w
  unfolding hand_over
  second_handed h q = rw (q, e, h, hand_over)

-- ---- by the second stage: what it left in a section of its own
no_gap_no_sheet : (a : Audit) → is_judged a ≡ false → first_stands a ≡ true
unfolding first_stands is_judged
no_gap_no_sheet NotRun h = refl
no_gap_no_sheet (NotWhole z) h = refl
no_gap_no_sheet (NotOpened n) h = refl
no_gap_no_sheet (Judged v) h = absurd (not_both refl h)

module _ (g : Staged) (shaped : Shaped g.sheet) where
  abbrev z : List ℤ
  z = section_into 0 g (zeros section_cells)

  stored_is : (w : List ℤ) → stored g.stage.audit z w ≡ section_into second_at g w
  unfolding stored section_into
  stored_is w =
      ⊎_elim
      (λ (h : is_judged g.stage.audit ≡ true).
      stores g.stage.audit z w h ∙ ap (λ (t : List ℤ). written second_at t w) (fresh_section g shaped h)
      ∙ sym (written_in g shaped h second_at w))
      (λ (h : is_judged g.stage.audit ≡ false). stays g.stage.audit z w h ∙ sym (rw (h, section_into)))
      (truth (is_judged g.stage.audit))

  own_amounts : first_stands g.stage.audit ≡ false → take max_columns z ≡ g.sheet.plan.amounts
  own_amounts f =
      ⊎_elim
      (λ (h : is_judged g.stage.audit ≡ true). front_amounts g shaped h (zeros section_cells))
      (λ (h : is_judged g.stage.audit ≡ false). absurd (not_both (no_gap_no_sheet g.stage.audit h) f))
      (truth (is_judged g.stage.audit))

  pub handed_is : (f : Stage) (x w : List ℤ)
      → hand_over f g.stage x z g.arrays w ≡ hand_out f x g (section_into second_at g w)
  unfolding hand_over hand_out
  handed_is f x w =
      ⊎_elim
      (λ (h : first_stands g.stage.audit ≡ true).
      rw (h, hand_over, hand_out)
      (ap (λ (t : List ℤ). called (FirstStands f g.stage) g.arrays (written handed_at x t)) (stored_is w)))
      (λ (h : first_stands g.stage.audit ≡ false).
      rw (h, hand_over, hand_out)
      (ap (λ (t : List ℤ). called (Handed f g.stage) g.arrays (written handed_at (take max_columns z) t))
      (stored_is w)
      ∙ ap (λ (t : List ℤ). called (Handed f g.stage) g.arrays (written handed_at t (section_into second_at g w)))
      (own_amounts h)))
      (truth (first_stands g.stage.audit))

-- ---- the second stage's plan, from what is lent to it
abbrev pub laid : Plan → List ℤ
laid p = take (p.rows * p.cols) p.coefs ++ take p.cols p.costs

module _ (p : Plan) (l : Lends p) where
  abbrev Q : List ℤ
  Q = laid p

  coefs_count : length Q ≡ (p.rows + 1) * p.cols
  coefs_count =
      simp length-append
      (omega (
        arith,
        length-take-le (p.rows * p.cols) p.coefs l.coefs_long,
        length-take-le p.cols p.costs l.costs_long,
      ))

  -- the coefficients are lent where they were laid
  pub coefs_lent : (w : List ℤ) (e : ℕ) → whole_end ≤ length w → e ≡ (p.rows + 1) * p.cols
      → section coefs_at e (written coefs_at Q w) ≡ Q
  coefs_lent w e h q =
      let n = length-take-le coefs_at w (omega (arith, h)) in
      ap (take e) (ap (drop coefs_at) (append_assoc (take coefs_at w) Q (drop (coefs_at + length Q) w))
      ∙ drop_at (take coefs_at w) (Q ++ drop (coefs_at + length Q) w) coefs_at n)
      ∙ take_at Q (drop (coefs_at + length Q) w) e (coefs_count ∙ sym q)

  -- a front of p.rows and one more
  pub front_lent : {A : Type 0} (xs d : List A) (x : A) → p.rows ≤ length xs
      → take (p.rows + 1) (written 0 (take p.rows xs ++ (x ∷ [])) d) ≡ take p.rows xs ++ (x ∷ [])
  front_lent xs d x h =
      take_at (take p.rows xs ++ (x ∷ [])) (drop (0 + length (take p.rows xs ++ (x ∷ []))) d) (p.rows + 1)
      (simp length-append (omega (arith, length-take-le p.rows xs h)))

  pub plan_lent : (costs : List ℤ) (found : ℤ) {co sides : List ℤ} {ops : List ℕ} → co ≡ Q
      → sides ≡ take p.rows p.rhs ++ (found ∷ []) → ops ≡ take p.rows p.ops ++ (0 ∷ [])
      → plan_of (p.rows + 1) p.cols co costs p.lowers p.uppers p.lower_marks p.upper_marks sides ops
      p.amounts p.mults
      ≡ second_plan p costs found
  unfolding second_plan
  plan_lent costs found e f g = rw (e, f, g)

  -- it lends enough
  pub lends_second : (costs : List ℤ) (found : ℤ) → p.rows < max_rows → p.cols ≤ length costs
      → Lends (second_plan p costs found)
  unfolding second_plan
  lends_second costs found h k =
      record {
        rows_few = omega (arith, h);
        cols_few = l.cols_few;
        coefs_long = omega (arith, coefs_count);
        costs_long = k;
        lowers_long = l.lowers_long;
        uppers_long = l.uppers_long;
        lower_marks_long = l.lower_marks_long;
        upper_marks_long = l.upper_marks_long;
        rhs_long = simp length-append (omega (arith, length-take-le p.rows p.rhs l.rhs_long));
        ops_long = simp length-append (omega (arith, length-take-le p.rows p.ops l.ops_long));
      }

-- ---- the second part, as its calls leave it
module _ (n : NightPlan) (f : Stage) (found : ℤ) (a : Arrays) (w : List ℤ)
    (h : n.plan.rows < max_rows) (k : n.plan.cols ≤ max_columns) where
  abbrev q : Plan
  q = second_plan n.plan n.report_costs found

  abbrev S : Staged
  S = stage_of n.budget n.tolerance q a

  second_shaped : Shaped S.sheet
  unfolding second_plan
  second_shaped = stage_shaped n.budget n.tolerance q a (omega (arith, h)) k

  pub second_is : {g : Stage} {b : Arrays} {z w1 x : List ℤ} {c : Called}
      → left g b z ≡ leaves S (zeros section_cells) → w1 ≡ written coefs_at (laid n.plan) w → x ≡ take max_columns w
      → c ≡ hand_over f g x z b w1 → c ≡ second_part n f (take max_columns w) found a w
  unfolding leaves second_part second_plan
  second_is {g} {b} {z} {w1} {x} {c} e p r t =
      t
      ∙ ap (λ (o : Left). hand_over f o.stage x o.section o.arrays w1) e
      ∙ ap (λ (y : List ℤ). hand_over f S.stage y (section_into 0 S (zeros section_cells)) S.arrays w1) r
      ∙ ap (λ (y : List ℤ). hand_over f S.stage (take max_columns w) (section_into 0 S (zeros section_cells))
      S.arrays y) p
      ∙ handed_is S second_shaped f (take max_columns w) (written coefs_at (laid n.plan) w)
