-- The entities that are in every registry (Developer's Guide, Professional UNO: XInterface, exceptions, the service manager).
use Rattle.std.specs.Prelude.{◌≡◌, ℕ, true, false, List, [], ◌∷◌, None, Some, Contains, codes}
use Rattle.uno_model.specs.Kinds as kd
use Rattle.uno_model.specs.Entities.{Entity, Field, Method, method, interface, exception}
use Rattle.uno_model.specs.Registry.{find_entity}
use Rattle.uno_model.specs.declared.way.Way.TheVariants.{Into}

-- their names
abbrev pub x_interface_name : List ℕ
x_interface_name = codes "com.sun.star.uno.XInterface"

abbrev pub exception_name : List ℕ
exception_name = codes "com.sun.star.uno.Exception"

abbrev pub runtime_exception_name : List ℕ
runtime_exception_name = codes "com.sun.star.uno.RuntimeException"

abbrev pub disposed_exception_name : List ℕ
disposed_exception_name = codes "com.sun.star.lang.DisposedException"

abbrev pub factory_name : List ℕ
factory_name = codes "com.sun.star.lang.XMultiServiceFactory"

-- any queryInterface([in] type aType), [oneway] void acquire(), [oneway] void release()
abbrev pub query_interface : Method
query_interface = record { name = codes "queryInterface"; oneway = false; result_kind = kd.any; params = record { way = Into; name = codes "aType"; kind = kd.kind } ∷ []; raises = [] }

abbrev pub acquire : Method
acquire = record { name = codes "acquire"; oneway = true; result_kind = kd.void; params = []; raises = [] }

abbrev pub release : Method
release = record { name = codes "release"; oneway = true; result_kind = kd.void; params = []; raises = [] }

abbrev pub x_interface : Entity
x_interface = record { name = x_interface_name; published = true; body = interface [] (method query_interface ∷ (method acquire ∷ (method release ∷ []))) }

-- string Message, XInterface Context
abbrev pub message_field : Field
message_field = record { name = codes "Message"; kind = kd.str }

abbrev pub context_field : Field
context_field = record { name = codes "Context"; kind = kd.interface x_interface_name }

abbrev pub base_exception : Entity
base_exception = record { name = exception_name; published = true; body = exception None (message_field ∷ (context_field ∷ [])) }

abbrev pub runtime_exception : Entity
runtime_exception = record { name = runtime_exception_name; published = true; body = exception (Some exception_name) [] }

abbrev pub disposed_exception : Entity
disposed_exception = record { name = disposed_exception_name; published = true; body = exception (Some runtime_exception_name) [] }

-- XInterface createInstance([in] string aServiceSpecifier) raises (Exception)
abbrev pub create_instance : Method
create_instance =
    record {
      name = codes "createInstance";
      oneway = false;
      result_kind = kd.interface x_interface_name;
      params = record { way = Into; name = codes "aServiceSpecifier"; kind = kd.str } ∷ [];
      raises = exception_name ∷ [];
    }

-- XInterface createInstanceWithArguments([in] string ServiceSpecifier, [in] sequence<any> Arguments) raises (Exception)
abbrev pub create_with_arguments : Method
create_with_arguments =
    record {
      name = codes "createInstanceWithArguments";
      oneway = false;
      result_kind = kd.interface x_interface_name;
      params = record { way = Into; name = codes "ServiceSpecifier"; kind = kd.str } ∷ (record { way = Into; name = codes "Arguments"; kind = kd.sequence kd.any } ∷ []);
      raises = exception_name ∷ [];
    }

-- sequence<string> getAvailableServiceNames()
abbrev pub available_names : Method
available_names = record { name = codes "getAvailableServiceNames"; oneway = false; result_kind = kd.sequence kd.str; params = []; raises = [] }

abbrev pub factory : Entity
factory =
    record {
      name = factory_name;
      published = true;
      body = interface (record { optional = false; name = x_interface_name } ∷ []) (method create_instance ∷ (method create_with_arguments ∷ (method available_names ∷ [])));
    }

-- all of them, in rising order of their names
abbrev pub built_in : List Entity
built_in = disposed_exception ∷ (factory ∷ (base_exception ∷ (runtime_exception ∷ (x_interface ∷ []))))

-- each of them is found under its name, and is itself
pub record HasBuiltIn (reg : List Entity) : Type 0 where
  pub found : (e : Entity) → Contains built_in e → find_entity e.name reg ≡ Some e
