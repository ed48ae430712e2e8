-- What a closed handle says of a desk or of a worker, which means nothing.
use Rattle.std.proofs.Common.{[], lit<}
use Rattle.mm_names.specs.Hash.{hash_by}
use Rattle.mm_manager.specs.Opening.{opening_state}
use Rattle.mm_thin.specs.declared.spread.Spread.{Spread}
use Rattle.mm_thin.specs.Parts.{Opening, WorkerState}
use Rattle.mm_thin.specs.Views.{no_desk}
use Rattle.pashkure.specs.Hall.{HallState}

no_spread : Spread
no_spread = record { hash = hash_by 0; buckets = 1; some = lit< tt }

no_opening : Opening
no_opening = record { table = record { words = 0; slots = 0; views_name = 0; atom = 0; block = 0; offset = 0; slot_names = [] }; spread = no_spread; bytes = 0 }

pub no_worker : WorkerState
no_worker = record { of = no_opening; at = 0; records = [] }

pub no_hall : HallState
no_hall =
    record {
      desk = record { manager = opening_state (record { transactions = 0; names = 0; name_bytes = 0; names_each = 0; seed = 0 }); office = record { of = no_opening; desk = no_desk; workers = 0; max_workers = 0 }; keys = [] };
      room = 0;
    }
