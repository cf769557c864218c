-- UPLOADS: what specs/Uploads says of an end holds of every end. Assumes nothing.
use Rattle.demands.specs.Runs.{ends}
use Rattle.demands.specs.Host.{whole_at}
use Rattle.demands.specs.Exports.{World, OfEnd, of_end}
use Rattle.demands.specs.Exported.{adds_nothing}
use Rattle.demands.specs.Uploads.{WholeUpload, states_all, UploadOnce}

pub whole_upload : (w : World) → OfEnd w WholeUpload
whole_upload w = of_end w WholeUpload (λ c rows id r c' rows' m ks xs s e. states_all (whole_at s (ends m) e))

pub one_content : (w : World) → OfEnd w UploadOnce
one_content w = of_end w UploadOnce (λ c rows i r c' rows' m ks xs s e ls ys d row t j p d' row' o f more q k u.
    (let a = whole_at s (ends m) e in let n = states_all a u in adds_nothing a (whole_at t (ends o) f) n.n more q k n.states))
