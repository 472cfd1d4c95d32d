-- The answer to a transaction (OGC 09-025r2, section 15.3).
use Rattle.std.specs.Prelude.{ℕ, true, ◌==◌, if◌then◌else◌, List, [], ◌∷◌, length, codes, decimal, Option, Some, None}
use Rattle.std.specs.List.{flat_map}
use Rattle.wfs_ends.specs.Ends.{joined}
use Rattle.doc_tree.specs.Escape.{escaped}
use Rattle.feature_values.specs.declared.schema.FeatureType.{FeatureType}
use Rattle.feature_values.specs.declared.schema.Schema.{Schema}
use Rattle.wfs_model.specs.declared.reply.Made.{Made}
use Rattle.reply_documents.specs.Features.{rid_text, type_of}

unfoldable pub some_handle_text : List ℕ → List ℕ
some_handle_text handle = joined (codes " handle=\"" ∷ escaped true handle ∷ codes "\"" ∷ [])

-- the handle of an action, where it has one
abbrev pub handle_text : Option (List ℕ) → List ℕ
handle_text None = []
handle_text (Some handle) = some_handle_text handle

unfoldable pub typed_made_text : FeatureType → Made → List ℕ
typed_made_text of_type made = joined (
    codes "<wfs:Feature" ∷ handle_text made.handle ∷ codes "><fes:ResourceId rid=\"" ∷ rid_text of_type made.id.number ∷ codes "\"/></wfs:Feature>" ∷ [])

abbrev pub made_if : Option FeatureType → Made → List ℕ
made_if None made = []
made_if (Some of_type) made = typed_made_text of_type made

-- a feature that an action made or changed, by its resource id; nothing where its type is not in the schema
unfoldable pub made_text : Schema → Made → List ℕ
made_text schema made = made_if (type_of schema made.id.kind) made

unfoldable pub some_results_text : Schema → List ℕ → List Made → List ℕ → List ℕ
some_results_text schema start made end = joined (start ∷ flat_map (made_text schema) made ∷ end ∷ [])

-- the features of a kind of action, where there are any
unfoldable pub results_text : Schema → List ℕ → List Made → List ℕ → List ℕ
results_text schema start made end = if length made == 0 then [] else some_results_text schema start made end

unfoldable pub total_text : List ℕ → ℕ → List ℕ → List ℕ
total_text start n end = joined (start ∷ decimal n ∷ end ∷ [])

-- how many features the actions of each kind made, changed or deleted
unfoldable pub totals_text : ℕ → ℕ → ℕ → ℕ → List ℕ
totals_text inserted updated replaced deleted = joined (
    total_text (codes "<wfs:totalInserted>") inserted (codes "</wfs:totalInserted>")
    ∷ total_text (codes "<wfs:totalUpdated>") updated (codes "</wfs:totalUpdated>")
    ∷ total_text (codes "<wfs:totalReplaced>") replaced (codes "</wfs:totalReplaced>")
    ∷ total_text (codes "<wfs:totalDeleted>") deleted (codes "</wfs:totalDeleted>") ∷ [])

-- the features of all actions
unfoldable pub all_results_text : Schema → List Made → List Made → List Made → List ℕ
all_results_text schema inserted updated replaced = joined (
    results_text schema (codes "<wfs:InsertResults>") inserted (codes "</wfs:InsertResults>")
    ∷ results_text schema (codes "<wfs:UpdateResults>") updated (codes "</wfs:UpdateResults>")
    ∷ results_text schema (codes "<wfs:ReplaceResults>") replaced (codes "</wfs:ReplaceResults>") ∷ [])

unfoldable pub transacted_body : Schema → ℕ → List Made → List Made → List Made → List ℕ
transacted_body schema deleted inserted updated replaced = joined (
    codes "<?xml version=\"1.0\" encoding=\"UTF-8\"?><wfs:TransactionResponse xmlns:wfs=\"http://www.opengis.net/wfs/2.0\" xmlns:fes=\"http://www.opengis.net/fes/2.0\" version=\"2.0.2\"><wfs:TransactionSummary>"
    ∷ totals_text (length inserted) (length updated) (length replaced) deleted
    ∷ codes "</wfs:TransactionSummary>" ∷ all_results_text schema inserted updated replaced ∷ codes "</wfs:TransactionResponse>" ∷ [])
