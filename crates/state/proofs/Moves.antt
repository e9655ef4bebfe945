-- The state after a section has changed: that array anew, all others as they were. Assumes nothing.
use mathlib.Core.List.{List, [], ◌++◌, append-nil}
use mathlib.Core.Path.{◌≡◌, refl, sym, ap, ◌∙◌}
use Prim.Native.Nat.{ℕ, ◌+◌}
use native.Mathlib.Omega.{arith}
use lib.ListN.{drop, drop_of_length-le}
use lib.Ieee.{Float}
use Rattle.doubles.specs.Limits.{max_rows, max_columns, vars, eta_columns, eta_entries}
use Rattle.rules.specs.Plan.{Workspace}
use Rattle.rules.specs.Parts.{etas_of, workspace_of}
use Rattle.state.specs.Packed.{section, packed, Sized, basic_vars_at, nb_vars_at, var_states_at, flag_cells_at, eta_leaving_at, eta_starts_at, eta_rows_at, kept_at, basic_var_vals_at, nb_var_vals_at, prices_at, norms_at, eta_coeffs_at, dual_norms_at, objective_at}
use Rattle.state.proofs.Sections.{Changed, glue}

-- one array anew
abbrev with_basic_vars : List ℕ → Workspace → Workspace
with_basic_vars x w = workspace_of x w.basic_var_vals w.nb_vars w.nb_var_vals w.prices w.norms w.dual_norms w.flags w.var_states w.etas

abbrev with_nb_vars : List ℕ → Workspace → Workspace
with_nb_vars x w = workspace_of w.basic_vars w.basic_var_vals x w.nb_var_vals w.prices w.norms w.dual_norms w.flags w.var_states w.etas

abbrev with_var_states : List ℕ → Workspace → Workspace
with_var_states x w = workspace_of w.basic_vars w.basic_var_vals w.nb_vars w.nb_var_vals w.prices w.norms w.dual_norms w.flags x w.etas

abbrev with_flags : List ℕ → Workspace → Workspace
with_flags x w = workspace_of w.basic_vars w.basic_var_vals w.nb_vars w.nb_var_vals w.prices w.norms w.dual_norms x w.var_states w.etas

abbrev with_eta_leaving : List ℕ → Workspace → Workspace
with_eta_leaving x w = workspace_of w.basic_vars w.basic_var_vals w.nb_vars w.nb_var_vals w.prices w.norms w.dual_norms w.flags w.var_states (etas_of x w.etas.starts w.etas.rows w.etas.coeffs)

abbrev with_eta_starts : List ℕ → Workspace → Workspace
with_eta_starts x w = workspace_of w.basic_vars w.basic_var_vals w.nb_vars w.nb_var_vals w.prices w.norms w.dual_norms w.flags w.var_states (etas_of w.etas.leaving x w.etas.rows w.etas.coeffs)

abbrev with_eta_rows : List ℕ → Workspace → Workspace
with_eta_rows x w = workspace_of w.basic_vars w.basic_var_vals w.nb_vars w.nb_var_vals w.prices w.norms w.dual_norms w.flags w.var_states (etas_of w.etas.leaving w.etas.starts x w.etas.coeffs)

abbrev with_basic_var_vals : List Float → Workspace → Workspace
with_basic_var_vals x w = workspace_of w.basic_vars x w.nb_vars w.nb_var_vals w.prices w.norms w.dual_norms w.flags w.var_states w.etas

abbrev with_nb_var_vals : List Float → Workspace → Workspace
with_nb_var_vals x w = workspace_of w.basic_vars w.basic_var_vals w.nb_vars x w.prices w.norms w.dual_norms w.flags w.var_states w.etas

abbrev with_prices : List Float → Workspace → Workspace
with_prices x w = workspace_of w.basic_vars w.basic_var_vals w.nb_vars w.nb_var_vals x w.norms w.dual_norms w.flags w.var_states w.etas

abbrev with_norms : List Float → Workspace → Workspace
with_norms x w = workspace_of w.basic_vars w.basic_var_vals w.nb_vars w.nb_var_vals w.prices x w.dual_norms w.flags w.var_states w.etas

abbrev with_eta_coeffs : List Float → Workspace → Workspace
with_eta_coeffs x w = workspace_of w.basic_vars w.basic_var_vals w.nb_vars w.nb_var_vals w.prices w.norms w.dual_norms w.flags w.var_states (etas_of w.etas.leaving w.etas.starts w.etas.rows x)

abbrev with_dual_norms_holds : List Float → Workspace → Workspace
with_dual_norms_holds x w = workspace_of w.basic_vars w.basic_var_vals w.nb_vars w.nb_var_vals w.prices w.norms x w.flags w.var_states w.etas

-- the arrays hold w: as a record, so that arguments are inferred
pub record Holds (w : Workspace) (N : List ℕ) (D : List Float) : Type 0 where
  pub is : packed N D ≡ w

pub as_lent : (N : List ℕ) (D : List Float) → Holds (packed N D) N D
as_lent N D = record { is = refl }

-- a section of numbers, or of doubles, that changes
module _ {w : Workspace} {N : List ℕ} {D : List Float} (h : Holds w N D) where
  pub in_basic_vars : {f : List ℕ → List ℕ} {M : List ℕ} → Changed basic_vars_at max_rows f N M → Holds (with_basic_vars (f w.basic_vars) w) M D
  in_basic_vars {f} {M} c =
      let same : packed M D ≡ with_basic_vars (f (packed N D).basic_vars) (packed N D) = rw (c.here, c.after nb_vars_at max_columns (omega arith), c.after var_states_at vars (omega arith), c.after flag_cells_at max_columns (omega arith), c.after eta_leaving_at eta_columns (omega arith), c.after eta_starts_at (eta_columns + 1) (omega arith), c.after eta_rows_at eta_entries (omega arith)) in
      record { is = same ∙ ap (λ (v : Workspace). with_basic_vars (f v.basic_vars) v) h.is }

  pub in_nb_vars : {f : List ℕ → List ℕ} {M : List ℕ} → Changed nb_vars_at max_columns f N M → Holds (with_nb_vars (f w.nb_vars) w) M D
  in_nb_vars {f} {M} c =
      let same : packed M D ≡ with_nb_vars (f (packed N D).nb_vars) (packed N D) = rw (c.before basic_vars_at max_rows (omega arith), c.here, c.after var_states_at vars (omega arith), c.after flag_cells_at max_columns (omega arith), c.after eta_leaving_at eta_columns (omega arith), c.after eta_starts_at (eta_columns + 1) (omega arith), c.after eta_rows_at eta_entries (omega arith)) in
      record { is = same ∙ ap (λ (v : Workspace). with_nb_vars (f v.nb_vars) v) h.is }

  pub in_var_states : {f : List ℕ → List ℕ} {M : List ℕ} → Changed var_states_at vars f N M → Holds (with_var_states (f w.var_states) w) M D
  in_var_states {f} {M} c =
      let same : packed M D ≡ with_var_states (f (packed N D).var_states) (packed N D) = rw (c.before basic_vars_at max_rows (omega arith), c.before nb_vars_at max_columns (omega arith), c.here, c.after flag_cells_at max_columns (omega arith), c.after eta_leaving_at eta_columns (omega arith), c.after eta_starts_at (eta_columns + 1) (omega arith), c.after eta_rows_at eta_entries (omega arith)) in
      record { is = same ∙ ap (λ (v : Workspace). with_var_states (f v.var_states) v) h.is }

  pub in_flags : {f : List ℕ → List ℕ} {M : List ℕ} → Changed flag_cells_at max_columns f N M → Holds (with_flags (f w.flags) w) M D
  in_flags {f} {M} c =
      let same : packed M D ≡ with_flags (f (packed N D).flags) (packed N D) = rw (c.before basic_vars_at max_rows (omega arith), c.before nb_vars_at max_columns (omega arith), c.before var_states_at vars (omega arith), c.here, c.after eta_leaving_at eta_columns (omega arith), c.after eta_starts_at (eta_columns + 1) (omega arith), c.after eta_rows_at eta_entries (omega arith)) in
      record { is = same ∙ ap (λ (v : Workspace). with_flags (f v.flags) v) h.is }

  pub in_eta_leaving : {f : List ℕ → List ℕ} {M : List ℕ} → Changed eta_leaving_at eta_columns f N M → Holds (with_eta_leaving (f w.etas.leaving) w) M D
  in_eta_leaving {f} {M} c =
      let same : packed M D ≡ with_eta_leaving (f (packed N D).etas.leaving) (packed N D) = rw (c.before basic_vars_at max_rows (omega arith), c.before nb_vars_at max_columns (omega arith), c.before var_states_at vars (omega arith), c.before flag_cells_at max_columns (omega arith), c.here, c.after eta_starts_at (eta_columns + 1) (omega arith), c.after eta_rows_at eta_entries (omega arith)) in
      record { is = same ∙ ap (λ (v : Workspace). with_eta_leaving (f v.etas.leaving) v) h.is }

  pub in_eta_starts : {f : List ℕ → List ℕ} {M : List ℕ} → Changed eta_starts_at (eta_columns + 1) f N M → Holds (with_eta_starts (f w.etas.starts) w) M D
  in_eta_starts {f} {M} c =
      let same : packed M D ≡ with_eta_starts (f (packed N D).etas.starts) (packed N D) = rw (c.before basic_vars_at max_rows (omega arith), c.before nb_vars_at max_columns (omega arith), c.before var_states_at vars (omega arith), c.before flag_cells_at max_columns (omega arith), c.before eta_leaving_at eta_columns (omega arith), c.here, c.after eta_rows_at eta_entries (omega arith)) in
      record { is = same ∙ ap (λ (v : Workspace). with_eta_starts (f v.etas.starts) v) h.is }

  pub in_eta_rows : {f : List ℕ → List ℕ} {M : List ℕ} → Changed eta_rows_at eta_entries f N M → Holds (with_eta_rows (f w.etas.rows) w) M D
  in_eta_rows {f} {M} c =
      let same : packed M D ≡ with_eta_rows (f (packed N D).etas.rows) (packed N D) = rw (c.before basic_vars_at max_rows (omega arith), c.before nb_vars_at max_columns (omega arith), c.before var_states_at vars (omega arith), c.before flag_cells_at max_columns (omega arith), c.before eta_leaving_at eta_columns (omega arith), c.before eta_starts_at (eta_columns + 1) (omega arith), c.here) in
      record { is = same ∙ ap (λ (v : Workspace). with_eta_rows (f v.etas.rows) v) h.is }

  pub in_basic_var_vals : {f : List Float → List Float} {M : List Float} → Changed basic_var_vals_at max_rows f D M → Holds (with_basic_var_vals (f w.basic_var_vals) w) N M
  in_basic_var_vals {f} {M} c =
      let same : packed N M ≡ with_basic_var_vals (f (packed N D).basic_var_vals) (packed N D) = rw (c.here, c.after nb_var_vals_at max_columns (omega arith), c.after prices_at max_columns (omega arith), c.after norms_at max_columns (omega arith), c.after eta_coeffs_at eta_entries (omega arith), c.after dual_norms_at max_rows (omega arith)) in
      record { is = same ∙ ap (λ (v : Workspace). with_basic_var_vals (f v.basic_var_vals) v) h.is }

  pub in_nb_var_vals : {f : List Float → List Float} {M : List Float} → Changed nb_var_vals_at max_columns f D M → Holds (with_nb_var_vals (f w.nb_var_vals) w) N M
  in_nb_var_vals {f} {M} c =
      let same : packed N M ≡ with_nb_var_vals (f (packed N D).nb_var_vals) (packed N D) = rw (c.before basic_var_vals_at max_rows (omega arith), c.here, c.after prices_at max_columns (omega arith), c.after norms_at max_columns (omega arith), c.after eta_coeffs_at eta_entries (omega arith), c.after dual_norms_at max_rows (omega arith)) in
      record { is = same ∙ ap (λ (v : Workspace). with_nb_var_vals (f v.nb_var_vals) v) h.is }

  pub in_prices : {f : List Float → List Float} {M : List Float} → Changed prices_at max_columns f D M → Holds (with_prices (f w.prices) w) N M
  in_prices {f} {M} c =
      let same : packed N M ≡ with_prices (f (packed N D).prices) (packed N D) = rw (c.before basic_var_vals_at max_rows (omega arith), c.before nb_var_vals_at max_columns (omega arith), c.here, c.after norms_at max_columns (omega arith), c.after eta_coeffs_at eta_entries (omega arith), c.after dual_norms_at max_rows (omega arith)) in
      record { is = same ∙ ap (λ (v : Workspace). with_prices (f v.prices) v) h.is }

  pub in_norms : {f : List Float → List Float} {M : List Float} → Changed norms_at max_columns f D M → Holds (with_norms (f w.norms) w) N M
  in_norms {f} {M} c =
      let same : packed N M ≡ with_norms (f (packed N D).norms) (packed N D) = rw (c.before basic_var_vals_at max_rows (omega arith), c.before nb_var_vals_at max_columns (omega arith), c.before prices_at max_columns (omega arith), c.here, c.after eta_coeffs_at eta_entries (omega arith), c.after dual_norms_at max_rows (omega arith)) in
      record { is = same ∙ ap (λ (v : Workspace). with_norms (f v.norms) v) h.is }

  pub in_eta_coeffs : {f : List Float → List Float} {M : List Float} → Changed eta_coeffs_at eta_entries f D M → Holds (with_eta_coeffs (f w.etas.coeffs) w) N M
  in_eta_coeffs {f} {M} c =
      let same : packed N M ≡ with_eta_coeffs (f (packed N D).etas.coeffs) (packed N D) = rw (c.before basic_var_vals_at max_rows (omega arith), c.before nb_var_vals_at max_columns (omega arith), c.before prices_at max_columns (omega arith), c.before norms_at max_columns (omega arith), c.here, c.after dual_norms_at max_rows (omega arith)) in
      record { is = same ∙ ap (λ (v : Workspace). with_eta_coeffs (f v.etas.coeffs) v) h.is }

  pub in_dual_norms : {f : List Float → List Float} {M : List Float} → Changed dual_norms_at max_rows f D M → Holds (with_dual_norms_holds (f w.dual_norms) w) N M
  in_dual_norms {f} {M} c =
      let same : packed N M ≡ with_dual_norms_holds (f (packed N D).dual_norms) (packed N D) = rw (c.before basic_var_vals_at max_rows (omega arith), c.before nb_var_vals_at max_columns (omega arith), c.before prices_at max_columns (omega arith), c.before norms_at max_columns (omega arith), c.before eta_coeffs_at eta_entries (omega arith), c.here) in
      record { is = same ∙ ap (λ (v : Workspace). with_dual_norms_holds (f v.dual_norms) v) h.is }

-- the arrays are their sections in turn, so the workspace settles every cell
abbrev numbers_of : Workspace → List ℕ
numbers_of w = w.basic_vars ++ (w.nb_vars ++ (w.var_states ++ (w.flags ++ (w.etas.leaving ++ (w.etas.starts ++ w.etas.rows)))))

abbrev doubles_of : Workspace → List Float
doubles_of w = w.basic_var_vals ++ (w.nb_var_vals ++ (w.prices ++ (w.norms ++ (w.etas.coeffs ++ w.dual_norms))))

module _ {N : List ℕ} {D : List Float} (s : Sized N D) where
  numbers_are : N ≡ numbers_of (packed N D)
  numbers_are =
      let past : drop kept_at N ≡ [] = drop_of_length-le N {i = kept_at} (omega (arith, s)) in
      let rows = glue eta_rows_at eta_entries N ∙ ap (λ (l : List ℕ). section eta_rows_at eta_entries N ++ l) past ∙ append-nil _ in
      glue basic_vars_at max_rows N
      ∙ ap (λ (l : List ℕ). section basic_vars_at max_rows N ++ l) (glue nb_vars_at max_columns N
      ∙ ap (λ (l : List ℕ). section nb_vars_at max_columns N ++ l) (glue var_states_at vars N
      ∙ ap (λ (l : List ℕ). section var_states_at vars N ++ l) (glue flag_cells_at max_columns N
      ∙ ap (λ (l : List ℕ). section flag_cells_at max_columns N ++ l) (glue eta_leaving_at eta_columns N
      ∙ ap (λ (l : List ℕ). section eta_leaving_at eta_columns N ++ l) (glue eta_starts_at (eta_columns + 1) N
      ∙ ap (λ (l : List ℕ). section eta_starts_at (eta_columns + 1) N ++ l) rows)))))

  doubles_are : D ≡ doubles_of (packed N D)
  doubles_are =
      let past : drop objective_at D ≡ [] = drop_of_length-le D {i = objective_at} (omega (arith, s)) in
      let dual_norms_holds = glue dual_norms_at max_rows D ∙ ap (λ (l : List Float). section dual_norms_at max_rows D ++ l) past ∙ append-nil _ in
      glue basic_var_vals_at max_rows D
      ∙ ap (λ (l : List Float). section basic_var_vals_at max_rows D ++ l) (glue nb_var_vals_at max_columns D
      ∙ ap (λ (l : List Float). section nb_var_vals_at max_columns D ++ l) (glue prices_at max_columns D
      ∙ ap (λ (l : List Float). section prices_at max_columns D ++ l) (glue norms_at max_columns D
      ∙ ap (λ (l : List Float). section norms_at max_columns D ++ l) (glue eta_coeffs_at eta_entries D
      ∙ ap (λ (l : List Float). section eta_coeffs_at eta_entries D ++ l) dual_norms_holds))))

pub settled : {N M : List ℕ} {D E : List Float} → Sized N D → Sized M E → packed N D ≡ packed M E → (N ≡ M) × (D ≡ E)
settled s t e = (numbers_are s ∙ ap numbers_of e ∙ sym (numbers_are t), doubles_are s ∙ ap doubles_of e ∙ sym (doubles_are t))
