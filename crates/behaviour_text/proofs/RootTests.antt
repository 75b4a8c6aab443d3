-- Whether a root may write a term, by its pieces.
use Rattle.std.proofs.Common.{refl}
use Rattle.plan_model.specs.Forms.{is_root_term, are_root_terms}
use Rattle.term_pieces.specs.Tests.{ByPiece}
use Rattle.behaviour_text.specs.RootPieces.{is_root_piece}

pub root_tests : ByPiece is_root_term are_root_terms is_root_piece
unfolding is_root_term are_root_terms
root_tests =
    record {
      nil = refl;
      cons = λ t ts. refl;
      of_leaf = λ t. refl;
      of_type = λ k. refl;
      of_void = refl;
      of_typed = λ k t. refl;
      of_elements = λ n ts. refl;
      of_members = λ n ts. refl;
      of_word = λ w. refl;
      of_operation = λ op s t. refl;
    }
