-- Where the pages are.
use Rattle.std.specs.Prelude.{ℕ, List, codes}
use Rattle.cc_status.specs.declared.page.Page.{Page}
use Rattle.cc_status.specs.declared.page.Page.TheVariants.{Home, Status, View, Changes, Metrics, Health, Ready}

-- the path of a page
abbrev pub path_of : Page → List ℕ
path_of Home = codes "/"
path_of Status = codes "/status.json"
path_of View = codes "/view"
path_of Changes = codes "/view/changes"
path_of Metrics = codes "/metrics"
path_of Health = codes "/healthz"
path_of Ready = codes "/readyz"
