-- One more entry of a history.
use Rattle.std.proofs.Common.{◌≡◌, ℕ, ◌+◌, ◌≤◌, List, [], ◌∷◌, ◌++◌, All, Option, refl, sym, ap, ◌∙◌, subst, append_assoc, arith}
use Rattle.std.specs.List.{sum_by}
use Rattle.std.specs.Option.{option_to_list}
use Rattle.std.proofs.lemmas.List.Sums.{fold-append, sum_by-append}
use Rattle.std.proofs.lemmas.List.Elements.{All-nil, All-cons, All-append}
use Rattle.feature_values.specs.declared.schema.Schema.{Schema}
use Rattle.wfs_model.specs.declared.change.Change.{Change}
use Rattle.wfs_model.specs.declared.entry.Entry.{Entry}
use Rattle.wfs_model.specs.Changing.{IsChange}
use Rattle.wfs_model.specs.History.{IsLegal, after_all, stepped}
use Rattle.wfs_model.specs.OfSchema.{IsOfSchema}
use Rattle.wfs_model.specs.Played.{accepted, change_of}
use Rattle.wfs_model.specs.State.{State}
use Rattle.wfs_model.proofs.Keeping.{step_keeps}
use Rattle.wfs_store.specs.Judged.{added_by}
use Rattle.wfs_store.specs.Past.{bytes_of, last_made, IsPast}

-- ---- lists

pub after_more : (schema : Schema) (opening : State) (entries : List Entry) (entry : Entry)
    → after_all schema opening (entries ++ entry ∷ []) ≡ stepped schema (after_all schema opening entries) entry
after_more schema opening entries entry = fold-append (stepped schema) opening entries (entry ∷ [])

pub legal_more : (schema : Schema) (opening : State) (entries : List Entry) (entry : Entry)
    → IsLegal schema opening entries → IsChange entry.request → (after_all schema opening entries).last ≤ entry.moment
    → IsLegal schema opening (entries ++ entry ∷ [])
legal_more schema opening [] entry legal change later = (change, later, tt)
legal_more schema opening (first ∷ entries) entry legal change later =
    (legal.0, legal.1, legal_more schema (stepped schema opening first) entries entry legal.2 change later)

pub accepted_more : (schema : Schema) (opening : State) (entries : List Entry) (entry : Entry)
    → accepted schema opening (entries ++ entry ∷ [])
    ≡ accepted schema opening entries ++ option_to_list (change_of schema (after_all schema opening entries) entry.moment entry.request)
accepted_more schema opening [] entry = refl_right (option_to_list (change_of schema opening entry.moment entry.request))
  where
    refl_right : (changes : List Change) → changes ++ [] ≡ changes
    refl_right [] = refl
    refl_right (c ∷ cs) = ap (λ l. c ∷ l) (refl_right cs)
accepted_more schema opening (first ∷ entries) entry =
    let made : List Change = option_to_list (change_of schema opening first.moment first.request) in
    ap (λ l. made ++ l) (accepted_more schema (stepped schema opening first) entries entry)
    ∙ sym (append_assoc made (accepted schema (stepped schema opening first) entries)
    (option_to_list (change_of schema (after_all schema (stepped schema opening first) entries) entry.moment entry.request)))

pub last_more : (schema : Schema) (opening : State) (entries : List Entry) (entry : Entry)
    → last_made schema opening (entries ++ entry ∷ []) ≡ change_of schema (after_all schema opening entries) entry.moment entry.request
last_more schema opening [] entry = refl
last_more schema opening (first ∷ []) entry = refl
last_more schema opening (first ∷ (second ∷ entries)) entry = last_more schema (stepped schema opening first) (second ∷ entries) entry

pub bytes_more : (entries : List Entry) (entry : Entry) → bytes_of (entries ++ entry ∷ []) ≡ bytes_of entries + entry.size
bytes_more entries entry = let more = sum_by-append (λ (e : Entry). e.size) entries (entry ∷ []) in omega (arith, more)

-- what changes add to a side, each its length and what stands around it
pub added_more : (body : Change → ℕ) (schema : Schema) (opening : State) (entries : List Entry) (entry : Entry)
    → sum_by (λ change. 5 + body change) (accepted schema opening (entries ++ entry ∷ []))
    ≡ sum_by (λ change. 5 + body change) (accepted schema opening entries)
    + sum_by (λ change. 5 + body change) (option_to_list (change_of schema (after_all schema opening entries) entry.moment entry.request))
added_more body schema opening entries entry =
    ap (sum_by (λ change. 5 + body change)) (accepted_more schema opening entries entry)
    ∙ sum_by-append (λ change. 5 + body change) (accepted schema opening entries)
    (option_to_list (change_of schema (after_all schema opening entries) entry.moment entry.request))

pub fitting_more : (schema : Schema) (entries : List Entry) (entry : Entry)
    → All (λ e. IsOfSchema schema e.request) entries → IsOfSchema schema entry.request → All (λ e. IsOfSchema schema e.request) (entries ++ entry ∷ [])
fitting_more schema entries entry all one =
    All-append (λ (e : Entry). IsOfSchema schema e.request) entries (entry ∷ []) all
    (All-cons (λ (e : Entry). IsOfSchema schema e.request) entry [] one (All-nil (λ (e : Entry). IsOfSchema schema e.request)))

-- ---- what stands in memory

pub past_more : (schema : Schema) (opening now : State) (entries : List Entry) (size : ℕ) (made : Option Change) (entry : Entry)
    → IsPast schema opening now entries size made → IsChange entry.request → IsOfSchema schema entry.request → now.last ≤ entry.moment
    → IsPast schema opening (stepped schema now entry) (entries ++ entry ∷ []) (size + entry.size) (change_of schema now entry.moment entry.request)
past_more schema opening now entries size made entry past change fitting later =
    let later_than : (after_all schema opening entries).last ≤ entry.moment = subst (λ (s : State). s.last ≤ entry.moment) past.state later in
    record {
      history = record {
        legal = legal_more schema opening entries entry past.history.legal change later_than;
        fitting = fitting_more schema entries entry past.history.fitting fitting;
      };
      state = ap (λ (s : State). stepped schema s entry) past.state ∙ sym (after_more schema opening entries entry);
      well = step_keeps schema now entry.moment entry.request past.well fitting;
      bytes = (let more = bytes_more entries entry in let is = past.bytes in omega (arith, more, is));
      last = ap (λ (s : State). change_of schema s entry.moment entry.request) past.state ∙ sym (last_more schema opening entries entry);
    }

-- how much longer a side is with one more entry
pub longer_with : (body : Change → ℕ) (schema : Schema) (start : ℕ) (opening : State) (entries : List Entry) (entry : Entry)
    → start + added_by body (accepted schema opening (entries ++ entry ∷ []))
    ≡ (start + added_by body (accepted schema opening entries))
    + added_by body (option_to_list (change_of schema (after_all schema opening entries) entry.moment entry.request))
longer_with body schema start opening entries entry =
    let more = added_more body schema opening entries entry in
    omega (arith, more)
