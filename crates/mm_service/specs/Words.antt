-- The words of the requests, with what follows each.
use Rattle.std.specs.Prelude.{ℕ, List, [], ◌∷◌, codes}
use Rattle.mm_service.specs.declared.requests.Form.{Form}
use Rattle.mm_service.specs.declared.requests.Form.TheVariants as forms
use Rattle.mm_service.specs.declared.requests.KeyRequest.TheVariants as of_key
use Rattle.mm_service.specs.declared.requests.NameRequest.TheVariants as of_name

-- each word that asks, in the order of the pages
abbrev pub words : List (List ℕ × Form)
words =
    (codes "begin", forms.Begin)
    ∷ (codes "lock", forms.KeyAndName of_name.Lock)
    ∷ (codes "try", forms.KeyAndName of_name.Try)
    ∷ (codes "unlock", forms.KeyAndName of_name.Unlock)
    ∷ (codes "commit", forms.Key of_key.Commit)
    ∷ (codes "abort", forms.Key of_key.Abort)
    ∷ (codes "cancel", forms.Key of_key.Cancel)
    ∷ (codes "owner", forms.Owner)
    ∷ (codes "status", forms.Key of_key.Status)
    ∷ (codes "holds", forms.Holds)
    ∷ (codes "graph", forms.Graph)
    ∷ (codes "totals", forms.Totals)
    ∷ []
